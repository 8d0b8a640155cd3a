-- Kept sources and the parts of a box own what a box at the same types owns.
use mir.Syntax.{impl, tnil, dnil}
use mathlib.Core.List.{[]}
use denote.Signature.{Slot, plain}
use Rattle.std_alloc.proofs.BoxSteps.Form.{Bx}
use Rattle.std_heap.specs.contracts.Global as Heap
use Rattle.std_heap.specs.contracts.GlobalAllocator.TheImpl.{ghosts, dict}
use Rattle.std_heap.proofs.Global.TheLaws as heap
use Rattle.yazgult_c.specs.contracts.sources.kept.Kept as Kept
use Rattle.yazgult_c.proofs.sources.kept.Kept.TheLaws as kept
use Rattle.yazgult_c.specs.contracts.sources.parts.Parts as Parts
use Rattle.yazgult_c.specs.contracts.sources.Sources as Sources

abbrev pub E : Bx
E = record {
  row = Kept.the_row;
  laws = kept.the_row_laws;
  al = record {
    row = Heap.the_row;
    laws = heap.the_row_laws;
    g = ghosts;
    d = dict;
    drops = impl [] tnil dnil;
  };
}

abbrev pub FromParts : Slot 0
FromParts = plain (λ _. Parts.the_row Kept.the_row Heap.the_row ghosts)

abbrev pub FromSources : Slot 0
FromSources = plain (λ _. Sources.the_row)
