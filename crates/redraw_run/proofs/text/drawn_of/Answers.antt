use Rattle.std.proofs.Common.{ℕ, ◌≡◌, ◌∙◌, Bool, List, ap, map, string_bytes}
use Rattle.std.proofs.lemmas.Result.{IfOk-weaker}
use Rattle.annotate_snippets.proofs.ReportLemmas.{IfOk-both}
use Rattle.annotate_snippets.specs.declared.snippet.Group.{Group}
use Rattle.redraw_read.proofs.Counting.{more-none}
use Rattle.redraw_read.specs.declared.spot.Placing.{Placing}
use Rattle.redraw_run.specs.DrawnFinding.{HasLawsAs, ShowsAs, ShowsFinding, has_room}
use Rattle.redraw_report.specs.Report.{report_of}
use Rattle.redraw_report.specs.View.{section_view}
use Rattle.redraw_run.proofs.Refusing.{undrawn_of}
use Rattle.redraw_run.proofs.text.drawn_of.Goals as goal

pub returns : goal.returns
returns g c =
    let r = c.args.renderer.now in
    let groups : List Group = c.in_ok-groups.groups.items in
    let told : map section_view groups ≡ report_of (has_room r) c.in_ok-finding.finding = c.in_ok-groups.ensures.told
    ∙ ap (λ (room : Bool). report_of room c.in_ok-finding.finding) c.has_room.ensures.value in
    let Shows : List ℕ → Type 0 = ShowsAs r.markup r.settings groups in
    let Laws : List ℕ → Type 0 = HasLawsAs r.markup r.settings groups in
    record {
      shows =
          IfOk-weaker c.render_fitting.result (λ text. Shows (string_bytes text) × Laws (string_bytes text))
          (λ text. ShowsFinding r c.args.sources.now.files.items c.args.diagnostic.now (string_bytes text))
          (λ text shown. record {
            finding = c.in_ok-finding.finding;
            is = c.in_ok-finding.ensures.is;
            groups = groups;
            told = told;
            safe = c.in_ok-groups.ensures.safe;
            shows = shown.0;
            laws = shown.1;
          })
          (IfOk-both (λ text. Shows (string_bytes text)) (λ text. Laws (string_bytes text)) c.render_fitting.result
          c.render_fitting.ensures.shows c.render_fitting.ensures.laws);
      refused =
          undrawn_of r c.args.sources.now.files.items c.args.diagnostic.now c.in_ok-finding.finding groups c.render_fitting.result
          c.in_ok-finding.ensures.is told c.render_fitting.ensures.refused;
      clamped =
          ap (λ (p : Placing). p.clamped) c.in_ok-finding.ensures.counted ∙ more-none c.new-placing.result.clamped _ c.new-placing.ensures.clamped;
      undrawn =
          ap (λ (p : Placing). p.undrawn) c.in_ok-finding.ensures.counted ∙ more-none c.new-placing.result.undrawn _ c.new-placing.ensures.undrawn;
    }
