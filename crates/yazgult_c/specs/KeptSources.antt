-- What a pointer to kept sources owns.
use base.Fml.{Fml, ftrue}
use base.Stored.{Coded}
use denote.RawPtr.{Ptr, block_ptr, null_ptr}
use Rattle.std.specs.Box.Ownership.{box_owns}
use Rattle.std.specs.Global.{Global}
use Rattle.std_heap.specs.contracts.GlobalAllocator.TheImpl.{ghosts}
use Rattle.yazgult_c.specs.contracts.sources.kept.Kept.{the_row}

-- a pointer owns the box that it leads to; null owns nothing
abbrev pub kept_owns : Global → Ptr → the_row.Denot → Fml
kept_owns alloc (block_ptr b o) kept = box_owns (ghosts.dealloc_token alloc) the_row (block_ptr b o) kept
kept_owns alloc null_ptr kept = ftrue

abbrev pub kept_coded : Coded the_row.Denot
kept_coded = the_row.coded
