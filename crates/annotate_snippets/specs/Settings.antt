-- The settings of a renderer.
use Rattle.std.specs.Prelude.{true, false}
use Rattle.snippet_style.specs.declared.glyphs.DecorStyle.TheVariants.{Ascii}
use Rattle.snippet_style.specs.Stylesheet.{plain_sheet, default_sheet}
use Rattle.annotate_snippets.specs.declared.renderer.Renderer.{Renderer}

-- no style codes, ASCII strokes, no links, a width of 140 columns, every switch off
abbrev pub plain_settings : Renderer
plain_settings =
    record {
      anonymized_origin_line_numbers = false;
      anonymized_snippet_line_numbers = false;
      term_width = 140;
      decor_style = Ascii;
      stylesheet = plain_sheet;
      hyperlink = false;
      short_message = false;
      no_graphics = false;
      show_line_feeds = false;
      context_before = 0;
      context_after = 0;
      wrap = false;
      mask_controls = false;
      label_lines = false;
    }

-- the plain settings with the default sheet's codes in place of none, and with links
abbrev pub styled_settings : Renderer
styled_settings =
    record plain_settings { stylesheet = default_sheet; hyperlink = true }
