use Rattle.std.proofs.Common.{◌+◌, ◌-◌, arith, length}
use Rattle.std.proofs.lemmas.Str.{IsUtf8-from_is_utf8}
use Rattle.replay_read.proofs.Lines.{line-before, line-last, line-part, line_range-is, start-found, start-none}
use Rattle.replay_read.proofs.ruler.Ruler.known_line.Goals as goal

pub overflow_sub-result : goal.overflow_sub-result
overflow_sub-result c =
    let ruler = c.args.self.now in
    let text = ruler.source.now in
    let known = ruler.lined c.requires.known in
    let here = start-found text _ _ c.args.index _ c.in-Some.start c.deref.ensures.value known c.get.ensures.lookup.3 c.in-Some.is in
    let after = start-found text _ _ (c.args.index + 1) _ c.in-Some-get.next c.deref-2.ensures.value known c.get-2.ensures.lookup.3 c.in-Some-get.is in
    omega (arith, line-before text c.args.index c.in-Some.start.now c.in-Some-get.next.now (IsUtf8-from_is_utf8 text ruler.text) here after)

pub returns-in-Some-get-clause-value : goal.returns-in-Some-get-clause-value
returns-in-Some-get-clause-value c =
    let ruler = c.args.self.now in
    let text = ruler.source.now in
    let start = c.in-Some.start.now in
    let known = ruler.lined c.requires.known in
    let here = start-found text _ _ c.args.index _ c.in-Some.start c.deref.ensures.value known c.get.ensures.lookup.3 c.in-Some.is in
    let after = start-found text _ _ (c.args.index + 1) _ c.in-Some-get.next c.deref-2.ensures.value known c.get-2.ensures.lookup.3 c.in-Some-get.is in
    let end = line-before text c.args.index start c.in-Some-get.next.now (IsUtf8-from_is_utf8 text ruler.text) here after in
    line_range-is text c.args.index start (c.in-Some-get.next.now - 1) here (omega (arith, end))

pub returns-in-Some-get-clause-part : goal.returns-in-Some-get-clause-part
returns-in-Some-get-clause-part c =
    let ruler = c.args.self.now in
    let text = ruler.source.now in
    let utf8 = IsUtf8-from_is_utf8 text ruler.text in
    let start = c.in-Some.start.now in
    let known = ruler.lined c.requires.known in
    let here = start-found text _ _ c.args.index _ c.in-Some.start c.deref.ensures.value known c.get.ensures.lookup.3 c.in-Some.is in
    let after = start-found text _ _ (c.args.index + 1) _ c.in-Some-get.next c.deref-2.ensures.value known c.get-2.ensures.lookup.3 c.in-Some-get.is in
    let end = line-before text c.args.index start c.in-Some-get.next.now utf8 here after in
    line-part text c.args.index start (c.in-Some-get.next.now - 1) utf8 here (omega (arith, end))

pub returns-in-None-clause-value : goal.returns-in-None-clause-value
returns-in-None-clause-value c =
    let ruler = c.args.self.now in
    let text = ruler.source.now in
    let start = c.in-Some.start.now in
    let known = ruler.lined c.requires.known in
    let here = start-found text _ _ c.args.index _ c.in-Some.start c.deref.ensures.value known c.get.ensures.lookup.3 c.in-Some.is in
    let after = start-none text _ _ (c.args.index + 1) _ c.deref-2.ensures.value known c.get-2.ensures.lookup.3 c.in-None.is in
    line_range-is text c.args.index start (length text) here (line-last text c.args.index start (IsUtf8-from_is_utf8 text ruler.text) here after)

pub returns-in-None-clause-part : goal.returns-in-None-clause-part
returns-in-None-clause-part c =
    let ruler = c.args.self.now in
    let text = ruler.source.now in
    let utf8 = IsUtf8-from_is_utf8 text ruler.text in
    let start = c.in-Some.start.now in
    let known = ruler.lined c.requires.known in
    let here = start-found text _ _ c.args.index _ c.in-Some.start c.deref.ensures.value known c.get.ensures.lookup.3 c.in-Some.is in
    let after = start-none text _ _ (c.args.index + 1) _ c.deref-2.ensures.value known c.get-2.ensures.lookup.3 c.in-None.is in
    line-part text c.args.index start (length text) utf8 here (line-last text c.args.index start utf8 here after)
