use Rattle.std.proofs.Common.{◌≡◌, ◌⊎◌, List, String, Global, [], ap, length, map, refl, string_bytes, subst, sym}
use Rattle.std.specs.Option.{option_copied}
use Rattle.tidy_run.specs.Run.{Clean, Reads, sheets_for}
use Rattle.tidy_run.specs.Arguments.{said, arguments_at}
use Rattle.tidy_run.proofs.Ending.{clean_of_texts, ends_as, ends_failed, ends_found, ends_bad_usage, ends_unlogged, ends_unprinted}
use Rattle.tidy_run.proofs.WrittenLemmas.{counted_texts}
use Rattle.tidy_run.proofs.run.run_lent.Goals as goal

pub write_texts-requires : goal.write_texts-requires
write_texts-requires g c =
    let sheets = sheets_for (said c.in-Some.command).log in
    let many = counted_texts (Reads (said c.in-Some.command) (option_copied c.args.file)) (option_copied c.args.file) _ _ sheets c.in-Ok.texts.items
    (c.in-Ok.ensures.read refl) c.in-Ok.ensures.shows in
    record { count = subst (λ (texts : List (String Global)). (texts ≡ []) ⊎ (length texts ≡ length sheets)) (sym c.deref.ensures.value) many }

pub returns-in_default-clause-ends : goal.returns-in_default-clause-ends
returns-in_default-clause-ends g c =
    ends_bad_usage (arguments_at c.args.args.now) (option_copied c.args.file) _ _ _ _ c.in_default.ensures.command refl c.write_line.ensures.told refl

pub returns-in-Err-clause-ends : goal.returns-in-Err-clause-ends
returns-in-Err-clause-ends g c =
    ends_failed (arguments_at c.args.args.now) (option_copied c.args.file) _ (said c.in-Some.command) c.in-Some.ensures.command _ _ _
    c.in-Err.failure c.in-Err.ensures.fails refl c.tell.ensures.told refl

pub returns-in-Nothing-clause-ends : goal.returns-in-Nothing-clause-ends
returns-in-Nothing-clause-ends g c =
    let (none, out, log) = c.in-Nothing.ensures.written in
    let texts = subst (λ (ts : List (String Global)). map string_bytes ts ≡ []) c.deref.ensures.value none in
    ends_as (arguments_at c.args.args.now) (option_copied c.args.file) _ (said c.in-Some.command) c.in-Some.ensures.command _ _ _
    Clean (clean_of_texts (said c.in-Some.command) (option_copied c.args.file) _ (map string_bytes c.in-Ok.texts.items)
    (c.in-Ok.ensures.read refl) c.in-Ok.ensures.shows texts) out refl log

pub returns-in-All-clause-ends : goal.returns-in-All-clause-ends
returns-in-All-clause-ends g c =
    ends_found (arguments_at c.args.args.now) (option_copied c.args.file) _ (said c.in-Some.command) c.in-Some.ensures.command _ _ _
    (map string_bytes c.deref.result.now) (map string_bytes c.in-Ok.texts.items) (ap (map string_bytes) c.deref.ensures.value)
    (c.in-Ok.ensures.read refl) c.in-Ok.ensures.shows c.in-All.ensures.written refl

pub returns-in-Unlogged-clause-ends : goal.returns-in-Unlogged-clause-ends
returns-in-Unlogged-clause-ends g c =
    ends_unlogged (arguments_at c.args.args.now) (option_copied c.args.file) _ (said c.in-Some.command) c.in-Some.ensures.command _ _ _
    c.in-Unlogged.name (map string_bytes c.deref.result.now) (map string_bytes c.in-Ok.texts.items) (ap (map string_bytes) c.deref.ensures.value)
    (c.in-Ok.ensures.read refl) c.in-Ok.ensures.shows c.in-Unlogged.ensures.written c.tell-in-Unlogged.ensures.told

pub returns-clause-ends : goal.returns-clause-ends
returns-clause-ends g c =
    ends_unprinted (arguments_at c.args.args.now) (option_copied c.args.file) _ (said c.in-Some.command) c.in-Some.ensures.command _ _ _
    (map string_bytes c.deref.result.now) (map string_bytes c.in-Ok.texts.items) (ap (map string_bytes) c.deref.ensures.value)
    (c.in-Ok.ensures.read refl) c.in-Ok.ensures.shows c.in-Unprinted.ensures.written refl
