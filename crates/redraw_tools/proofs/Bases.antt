-- Addresses after their bases, step by step.
use Rattle.std.proofs.Common.{◌≡◌, ◌∙◌, ℕ, zero, suc, List, Option, Some, None, ap, refl, sym}
use Rattle.std.specs.Prelude.{codes, option_map, unwrap_or}
use Rattle.serde_json.specs.Data.{Data}
use Rattle.json_lines.specs.Field.{text_field}
use Rattle.redraw_tools.specs.Path.{after_base, base_location, based}

-- what is done with a base that is there or isn't
abbrev by_base : ℕ → Data → List ℕ → Option Data → List ℕ
by_base n run uri o = unwrap_or (option_map (λ l. based n run (text_field (codes "uriBaseId") l) (after_base l uri)) o) uri

pub next_base : (n m : ℕ) (run l : Data) (base next : Option (List ℕ)) (uri whole : List ℕ) → n ≡ suc m → Some l ≡ base_location run base
    → next ≡ text_field (codes "uriBaseId") l → whole ≡ after_base l uri → based m run next whole ≡ based n run base uri
unfolding based
next_base n m run l base next uri whole more is named joined =
    (λ i. based m run (named i) (joined i)) ∙ ap (by_base m run uri) is ∙ ap (λ k. based k run base uri) (sym more)

pub no_base : (n : ℕ) (run : Data) (base : Option (List ℕ)) (uri : List ℕ) → None ≡ base_location run base → uri ≡ based n run base uri
unfolding based
no_base zero run base uri is = refl
no_base (suc n) run base uri is = ap (by_base n run uri) is

pub none_left : (n : ℕ) (run : Data) (base : Option (List ℕ)) (uri : List ℕ) → n ≡ 0 → uri ≡ based n run base uri
unfolding based
none_left n run base uri is = ap (λ k. based k run base uri) (sym is)
