-- The bounds of entries: which columns, characters, labels and depths they have.
use Rattle.std.specs.Prelude.{ℕ, ◌<◌, ◌≤◌, All, List, IfSome}
use Rattle.snippet_parts.specs.declared.entries.AnnotatedLineInfo.{AnnotatedLineInfo}
use Rattle.snippet_parts.specs.declared.entries.LineAnnotation.{LineAnnotation}
use Rattle.snippet_parts.specs.declared.entries.LineAnnotationType.{LineAnnotationType}
use Rattle.snippet_parts.specs.declared.entries.LineAnnotationType.TheVariants.{Singleline, MultilineStart, MultilineEnd, MultilineLine}
use Rattle.snippet_text.specs.TextBounds.{TextFits}
use Rattle.snippet_style.specs.Bounds.{IsColumn}

-- a fact about each entry of some lines
abbrev pub AllEntries : (LineAnnotation → Type 0) → List AnnotatedLineInfo → Type 0
AllEntries P infos = All (λ info. All P info.annotations.items) infos

-- an entry ends no earlier than it starts, and sums of columns have room
abbrev pub HasColumnRoom : LineAnnotation → Type 0
HasColumnRoom e = (e.start.display ≤ e.end.display) × IsColumn e.end.display

-- there is room for one character more than an entry starts at
abbrev pub HasCharacterRoom : LineAnnotation → Type 0
HasCharacterRoom e = IsColumn e.start.char

-- an entry's label is one of fewer than 2^56 bytes, if it has one
abbrev pub HasShortLabel : LineAnnotation → Type 0
HasShortLabel e = IfSome e.label TextFits

-- the depth of an entry of a span of several lines counts from 1 to the greatest one
abbrev pub HasDepthWithin : ℕ → LineAnnotationType → Type 0
HasDepthWithin deepest Singleline = Unit {0}
HasDepthWithin deepest (MultilineStart depth) = (0 < depth) × (depth ≤ deepest)
HasDepthWithin deepest (MultilineEnd depth) = (0 < depth) × (depth ≤ deepest)
HasDepthWithin deepest (MultilineLine depth) = (0 < depth) × (depth ≤ deepest)
