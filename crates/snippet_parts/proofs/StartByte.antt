-- The byte at which the entry of a span starts.
use Rattle.snippet_parts.proofs.Common.{◌≡◌, refl, Annotation, long_entry, Source, location_of, locations_of, start_location}

-- the start of a span, by its byte
pub start_byte : (s : Source) (a : Annotation) → (long_entry s a).start.byte ≡ a.span.start
unfolding locations_of start_location location_of
start_byte s a = refl
