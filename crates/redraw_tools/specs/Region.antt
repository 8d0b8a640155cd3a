-- The part of a file that a region of a SARIF log names.
use Rattle.std.specs.Prelude.{ℕ, ◌+◌, ◌-◌, ◌^◌, min, Option, codes, option_map, unwrap_or}
use Rattle.std.specs.Option.{option_or}
use Rattle.serde_json.specs.Data.{Data}
use Rattle.json_lines.specs.Lenient.{from_one, number_at}
use Rattle.redraw_report.specs.declared.diagnostic.LineRegion.{LineRegion}
use Rattle.redraw_report.specs.declared.diagnostic.Region.{Region}
use Rattle.redraw_report.specs.declared.diagnostic.Region.TheVariants as region
use Rattle.redraw_report.specs.declared.diagnostic.Unit.{Unit}
use Rattle.redraw_tools.specs.Units.{lines_from, offset_unit, region_unit, snippet_at}

-- the lines and columns of a region that begins on this line, in columns that count what those of the log do, or what fits its snippet
abbrev pub line_region : Data → ℕ → Unit → LineRegion
line_region d line unit = record (lines_from d line unit) { unit = region_unit (lines_from d line unit) (snippet_at d) }

-- a region by lines and columns, by characters, and by bytes
abbrev pub by_lines : Data → Unit → Option Region
by_lines d unit = option_map (λ line. region.Lines (line_region d line unit)) (from_one (codes "startLine") d)

-- the end of what begins at a number and has a length; none without one
abbrev pub end_after : ℕ → Option ℕ → ℕ
end_after start length = min (start + unwrap_or length 0) (2 ^ 64 - 1)

abbrev pub by_characters : Data → Unit → Option Region
by_characters d unit =
    option_map (λ start. region.Chars start (end_after start (number_at (codes "charLength") d)) (offset_unit unit))
    (number_at (codes "charOffset") d)

abbrev pub by_bytes : Data → Option Region
by_bytes d =
    option_map (λ start. region.Bytes start (end_after start (number_at (codes "byteLength") d))) (number_at (codes "byteOffset") d)

-- the part of a file that a region names: by lines and columns, else by characters, else by bytes
abbrev pub region_in : Data → Unit → Option Region
region_in d unit = option_or (by_lines d unit) (option_or (by_characters d unit) (by_bytes d))
