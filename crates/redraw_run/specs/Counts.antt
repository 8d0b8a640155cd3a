-- How many reports there are, by kind, and in words.
use Rattle.std.specs.Prelude.{ℕ, ◌==◌, ◌+◌, ◌-◌, ◌^◌, ◌&&◌, Bool, true, if◌then◌else◌, List, [], ◌∷◌, ◌++◌, codes, decimal, min}
use Rattle.redraw_run.specs.declared.counts.Counts.{Counts}
use Rattle.redraw_run.specs.declared.counts.Kind.{Kind}
use Rattle.redraw_run.specs.declared.counts.Kind.TheVariants.{Error, Warning, Other, Uncounted}

-- none
abbrev pub no_counts : Counts
no_counts = record { errors = 0; warnings = 0; others = 0 }

-- one more, as far as it can be counted
abbrev pub one_more : ℕ → ℕ
one_more n = min (n + 1) (2 ^ 64 - 1)

-- with a report of this kind more
abbrev pub counted : Counts → Kind → Counts
counted c Error = record c { errors = one_more c.errors }
counted c Warning = record c { warnings = one_more c.warnings }
counted c Other = record c { others = one_more c.others }
counted c Uncounted = c

-- so many of this name, as `2 errors`; nothing where there is none; after a comma where others stand before it
abbrev pub part : (is_first : Bool) → ℕ → List ℕ → List ℕ
part is_first count name =
    if count == 0 then []
    else (if is_first then [] else codes ", ") ++ decimal count ++ 32 ∷ [] ++ name ++ (if count == 1 then [] else codes "s")

-- in words, those that aren't none
abbrev pub counts_words : Counts → List ℕ
counts_words c =
    part true c.errors (codes "error") ++ part (c.errors == 0) c.warnings (codes "warning")
    ++ part (c.errors == 0 && c.warnings == 0) c.others (codes "other")
    ++ (if c.errors == 0 && c.warnings == 0 && c.others == 0 then codes "no errors or warnings" else [])
