-- Rows of how a suggestion is shown, computed: one for each way; and wrong ones, which contradict it.
use Rattle.std.proofs.Common.{◌≡◌, ◌∙◌, ℕ, refl, sym, ap, arith, length}
use Rattle.std.specs.Prelude.{codes}
use Rattle.std.specs.Str.{chars, trim_start}
use Rattle.redraw_read.specs.Rendered.{Group, Label, Message, Nowhere, Way, way}

-- a line that begins with `help: ` and the message is the title of a group; what rustc adds to the message comes with it
group : way (codes "use it") (codes "error: x\n\nhelp: use it (notice the dot)\n  |\n") ≡ Group (codes "use it (notice the dot)")
unfolding trim_start chars lib.Utf8.encode
group = refl

-- a line that has `= help: ` and the message after blanks is a message, also where a label is there too
message : way (codes "use it") (codes " | ^ help: use it: `b`\n  = help: use it\n") ≡ Message (codes "use it")
unfolding trim_start chars lib.Utf8.encode
message = refl

-- the first `help: ` of a line, wherever it stands, is a label, with what comes after the message
label : way (codes "use it") (codes "1 | a\n  | ^ help: use it: `b`\n") ≡ Label (codes "use it: `b`")
unfolding trim_start chars lib.Utf8.encode
label = refl

-- where the message stands after none of them, it isn't shown
nowhere : way (codes "use it") (codes "error: use it\nhelp: do not use it\n") ≡ Nowhere
unfolding trim_start chars lib.Utf8.encode
nowhere = refl

-- how much of a text is shown
abbrev shown : Way → ℕ
shown (Group title) = length title
shown (Message said) = length said
shown (Label text) = length text
shown Nowhere = 0

-- a body that shows the message as it is given, without what rustc adds, is refused
not-bare : way (codes "use it") (codes "error: x\n\nhelp: use it (notice the dot)\n  |\n") ≡ Group (codes "use it") → ⊥
not-bare same =
    let long : 23 ≡ 6 = ap shown (sym group ∙ same) in
    omega (arith, long)

-- and so is one that shows a label where there is a message
not-label : way (codes "use it") (codes " | ^ help: use it: `b`\n  = help: use it\n") ≡ Label (codes "use it: `b`") → ⊥
not-label same =
    let long : 6 ≡ 11 = ap shown (sym message ∙ same) in
    omega (arith, long)
