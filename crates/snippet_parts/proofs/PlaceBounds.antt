-- How far right a span starts and ends at most, in columns and in characters.
use Rattle.snippet_parts.proofs.Common.{ℕ, ◌+◌, ◌*◌, ◌≤◌, List, length, arith, cond_both, length-take, length-chars_le, width_of-chars, Source, place_of}
use Rattle.snippet_parts.proofs.Common.{location_of, steps_after_text, start_location, end_location, locations_of, length-text_at-source}
use Rattle.snippet_parts.proofs.Common.{start_location-column, place_of-column}

-- the columns before a byte
place-column : (source : List ℕ) (b : ℕ) → (place_of source b).column ≤ 4 * length source
place-column source b = grind (arith, place_of-column, width_of-chars, length-take, length-text_at-source)

steps-bound : (source : List ℕ) (b : ℕ) → steps_after_text source b ≤ 1
unfolding steps_after_text
steps-bound source b = grind (arith, cond_both)

location-column : (s : Source) (b : ℕ) → (location_of s b).display ≤ 4 * length s.text
unfolding location_of
location-column s b = place-column s.text b

end_location_column : (s : Source) (start end : ℕ) → (end_location s start end).display ≤ 4 * length s.text + 1
unfolding end_location
end_location_column s start end = grind (arith, cond_both, steps-bound, location-column)

-- the column of a start is at most four times the source's length
pub start-column-bound : (s : Source) (start end : ℕ) → (locations_of s start end).0.display ≤ 4 * length s.text
unfolding locations_of
start-column-bound s start end = omega (arith, start_location-column s start, place-column s.text start)

-- the column of an end is at most one more than four times the source's length
pub end-column-bound : (s : Source) (start end : ℕ) → (locations_of s start end).1.display ≤ 4 * length s.text + 1
unfolding locations_of
end-column-bound s start end = grind (arith, cond_both, start_location-column, place-column, end_location_column)

-- ---- characters

place-character : (source : List ℕ) (b : ℕ) → (place_of source b).character ≤ length source
unfolding place_of
place-character source b = grind (arith, length-chars_le, length-take, length-text_at-source)

start-location-character : (s : Source) (start : ℕ) → (start_location s start).char ≤ length s.text + 1
unfolding start_location location_of
start-location-character s start = omega (arith, place-character s.text start, steps-bound s.text start)

end-location-character : (s : Source) (start end : ℕ) → (end_location s start end).char ≤ length s.text + 1
unfolding end_location location_of
end-location-character s start end = grind (arith, cond_both, steps-bound, place-character)

-- the character of a start is at most one more than the source's length
pub start-character-bound : (s : Source) (start end : ℕ) → (locations_of s start end).0.char ≤ length s.text + 1
unfolding locations_of
start-character-bound s start end = start-location-character s start

-- the character of an end is at most one more than the source's length
pub end-character-bound : (s : Source) (start end : ℕ) → (locations_of s start end).1.char ≤ length s.text + 1
unfolding locations_of
end-character-bound s start end = grind (arith, cond_both, start-location-character, end-location-character)
