use Rattle.std.proofs.Common.{Bor, List, ℕ, [], sym}
use Rattle.std.proofs.lemmas.Slice.Eq.{bytes_eq-Decides}
use Rattle.json_lines.proofs.Names.{one_of_at}
use Rattle.json_lines.proofs.node.is_among.Goals as goal

-- what is read past the end
abbrev no_text : Bor (List ℕ)
no_text = record { ref_ptr = (0, 0); now = [] }

pub returns-then-eq : goal.returns-then-eq
returns-then-eq c =
    let i = c.loop-known.known-index in
    record {
      among = λ is. one_of_at c.args.names.now i no_text c.args.name.now c.loop-known-test.true (sym ((bytes_eq-Decides _ _).0 (sym c.if-eq.ensures)));
    }
