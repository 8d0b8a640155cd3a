use Rattle.std.proofs.Common.{[], ◌∷◌, ◌++◌, ◌∙◌, String, ap}
use Rattle.std.specs.Global.{Global, Vec}
use Rattle.redraw_read.specs.Loaded.{texts_of}
use Rattle.redraw_read.specs.declared.sources.File.{File}
use Rattle.redraw_read.proofs.Loading.{loads_new, named_so, on_ok}
use Rattle.redraw_read.proofs.sources.Sources.keep.Goals as goal

pub returns : goal.returns
returns g c =
    let file : File = record { name = c.in_ok-from_str.field-0; home = c.in_ok-from_str-2.field-0; source = c.args.source } in
    record {
      loads = on_ok c.put.result
          (λ is. loads_new c.args.home.now c.args.name.now _ _ file _ _
          (is ∙ ap (λ (files : Vec File). files.items ++ file ∷ []) c.in_ok-note.ensures.kept)
          (named_so c.args.name.now c.args.home.now file c.in_ok-from_str.ensures.ok c.in_ok-from_str-2.ensures.ok)
          (ap (λ (names : Vec (String Global)). texts_of names.items) c.put.ensures.unread ∙ c.in_ok-note.ensures.noted))
          c.put.ensures.put;
    }
