use mir.Raw.{raw}
use denote.Memory.{lone}
use denote.RawPtr.{Ptr, block_ptr, null_ptr}
use denote.Struct.Struct.{exits_of}
use denote.Struct.Owning.{shape, fields, to}
use base.Shift.{Keyless}
use denote.Param.Send.{IsSend, AllSend, owning_send, struct_send, sendable}
use Rattle.std.proofs.Crossing as heap
use Rattle.std.specs.Global.{Global}
use Rattle.std_alloc.proofs.SendSync.{quiet, lies}
use Rattle.std_heap.proofs.Global.TheSendSync as handle
use Rattle.yazgult_c.specs.KeptSources.{kept_owns}
use Rattle.yazgult_c.specs.contracts.sources.kept.Kept as Kept
use Rattle.yazgult_c.proofs.sources.kept.Kept.TheSendSync.{the_send as kept}
use Rattle.yazgult_c.specs.contracts.sources.Sources.{the_row, the_type}

owned : (alloc : Global) (at : Ptr) (sources : Kept.the_row.Denot) → Keyless (kept_owns alloc at sources)
owned alloc (block_ptr b o) sources = (lies Kept.the_row kept (block_ptr b o) sources, heap.frees.frees alloc (raw (lone Kept.the_row.mir)) (block_ptr b o))
owned alloc null_ptr sources = tt

pub send : IsSend the_row
send =
    let all : AllSend (fields the_type) = (search sendable, (handle.the_field_send, tt)) in
    owning_send the_type all (λ d. owned d.alloc d.at d.kept)
    (λ k. quiet (to the_type) (exits_of k (fields the_type)) ((struct_send (shape the_type) all).leaving k))
