use Rattle.annotate_snippets.proofs.GridRows.{copied_or, layout_is}
use Rattle.annotate_snippets.proofs.renderer.graphic.group_context.Goals as goal

pub returns-clause-layout : goal.returns-clause-layout
returns-clause-layout c =
    layout_is c.args.renderer.now c.args.report.now.groups.now c.args.group.now.group.now c.layout_for-layout.result c.args.report.now.gutter
    c.depth.result c.requires.gutter c.depth.ensures.value c.layout_for-layout.ensures.gutter c.layout_for-layout.ensures.code
    c.layout_for-layout.ensures.decor c.layout_for-layout.ensures.label_lines c.layout_for-layout.ensures.label_end

pub returns-clause-file : goal.returns-clause-file
returns-clause-file c = cc (c.or-file.ensures, copied_or c.primary_path.result c.args.report.now.file, c.primary_path.ensures.value, c.requires.file)
