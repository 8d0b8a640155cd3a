use Rattle.std.proofs.Common.{List, Some, ap, subst, sym, ◌∙◌, if◌then◌else◌, ◌&&◌}
use Rattle.std.specs.Str.{bytes_eq}
use Rattle.redraw_read.specs.FileIndex.{IsIndexOf, place_in}
use Rattle.redraw_read.specs.declared.sources.File.{File}
use Rattle.redraw_read.proofs.Indexed.{index_push}
use Rattle.redraw_read.proofs.sources.Sources.put.Goals as goal

pub invariant_of-self-in-Ok : goal.invariant_of-self-in-Ok
invariant_of-self-in-Ok g c =
    let name = c.args.name.now in
    let home = c.args.home.now in
    record {
      indexed = subst (λ (files : List File). IsIndexOf c.add.new.self files) (sym c.in_ok-push.ensures.items)
          (index_push c.args.self.now.index c.add.new.self c.args.self.now.files.items c.args.file name home
          c.args.self.now.indexed c.requires.absent c.requires.named.0 c.requires.named.1
          (λ n h. c.in-Ok.ensures.added n h
          ∙ ap (λ place. if bytes_eq name n && bytes_eq home h then Some place else place_in c.args.self.now.index n h)
          (c.len-place.ensures ∙ c.args.self.now.files.ok.0)));
    }
