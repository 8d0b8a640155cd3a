-- How reports look.
use Rattle.std.specs.Prelude.{◌&&◌, ◌||◌, not, true}
use Rattle.std.specs.Option.{option_or}
use Rattle.redraw_command.specs.Look.{has_colors, has_links, is_html}
use Rattle.redraw_command.specs.declared.terminal.Look.{Look}
use Rattle.redraw_command.specs.declared.terminal.Surroundings.{Surroundings}
use Rattle.redraw_run.specs.declared.look.ReportRenderer.{ReportRenderer}
use Rattle.program.specs.OptionSettings.{settings_of}
use Rattle.program.specs.declared.options.Options.{Options}

-- the options that the library's programs share, as a look has them in some surroundings: in HTML no report is of one line
abbrev pub shared_options : Look → Surroundings → Options
shared_options look around =
    record {
      unicode = look.unicode;
      text = look.text;
      short = look.short && not (is_html look.markup);
      styled = has_colors look around;
      width = option_or look.width around.columns;
    }

-- how reports are drawn: in the settings of these options, with links in HTML and where codes are written and links are asked for, with
-- line feeds shown and controls masked, and with titles, messages and labels that are too wide broken into rows where reports are to fit;
-- and in the markup that is asked for
abbrev pub looks : Look → Surroundings → ReportRenderer
looks look around =
    record {
      settings = record (settings_of (shared_options look around)) {
        hyperlink = is_html look.markup || (has_colors look around && has_links look around);
        show_line_feeds = true;
        mask_controls = true;
        wrap = look.fit;
        label_lines = look.fit;
      };
      markup = look.markup;
      is_workflow = look.github;
    }
