-- The calls of macros around a place, one by one.
use Rattle.std.proofs.lemmas.Grind.{common_steps}
use Rattle.std.proofs.Common.{◌≡◌, ◌≢◌, ℕ, zero, suc, ◌-◌, true, false, Some, None, ap, arith, codes, refl, unwrap_or, if◌then◌else◌}
use Rattle.std.specs.Option.{option_and_then}
use Rattle.serde_json.specs.Data.{Data}
use Rattle.serde_json.specs.Find.{get}
use Rattle.redraw_read.specs.Places.{call_around, expansion_of, is_named, named_from, outermost}
use Rattle.redraw_read.specs.declared.named_files.NamedFiles.{NamedFiles}

-- of no macros there is no outermost one
pub outermost_none : (n : ℕ) (d : Data) → n ≡ 0 → outermost n d ≡ None
unfolding outermost
outermost_none zero d e = refl
outermost_none (suc n) d e = absurd (omega arith)

-- nor of a place outside of macros
pub outermost_alone : (n : ℕ) (d : Data) → expansion_of d ≡ None → outermost n d ≡ None
unfolding outermost
outermost_alone n d none = grind (arith, common_steps)

-- nor of one whose macro isn't said to be called
pub outermost_uncalled : (n : ℕ) (d e : Data) → expansion_of d ≡ Some e → get (codes "span") e ≡ None → outermost n d ≡ None
unfolding outermost
outermost_uncalled n d e some none = grind (arith, common_steps)

-- else it is that around the call, or where there is none the macro itself
pub outermost_next : (n : ℕ) (d e call : Data) → n ≢ 0 → expansion_of d ≡ Some e → get (codes "span") e ≡ Some call
    → outermost n d ≡ Some (unwrap_or (outermost (n - 1) call) e)
unfolding outermost
outermost_next n d e call more some called = grind (arith, common_steps)

-- of no places none is in a file that is named
pub named_none : (files : NamedFiles) (n : ℕ) (d : Data) → n ≡ 0 → named_from files n d ≡ None
unfolding named_from
named_none files zero d e = refl
named_none files (suc n) d e = absurd (omega arith)

-- a place itself, where it is in one
pub named_here : (files : NamedFiles) (n : ℕ) (d : Data) → n ≢ 0 → is_named files d ≡ true → named_from files n d ≡ Some d
unfolding named_from
named_here files zero d more is = absurd (more refl)
named_here files (suc n) d more is = ap (λ b. if b then Some d else option_and_then (named_from files n) (call_around d)) is

-- none, where it isn't and is outside of macros
pub named_alone : (files : NamedFiles) (n : ℕ) (d : Data) → is_named files d ≡ false → call_around d ≡ None → named_from files n d ≡ None
unfolding named_from
named_alone files n d isnt none = grind (arith, common_steps)

-- else the first from the call on
pub named_next : (files : NamedFiles) (n : ℕ) (d call : Data) → n ≢ 0 → is_named files d ≡ false → call_around d ≡ Some call
    → named_from files n d ≡ named_from files (n - 1) call
unfolding named_from
named_next files n d call more isnt called = grind (arith, common_steps)

pub ruleset around = (
  outermost_none,
  outermost_alone,
  outermost_uncalled,
  outermost_next,
  named_none,
  named_here,
  named_alone,
  named_next,
)
