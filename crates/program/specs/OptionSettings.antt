-- The settings that options ask for.
use Rattle.std.specs.Prelude.{unwrap_or, if◌then◌else◌}
use Rattle.annotate_snippets.specs.declared.renderer.DecorStyle.TheVariants.{Ascii, Unicode}
use Rattle.annotate_snippets.specs.declared.renderer.Renderer.{Renderer}
use Rattle.annotate_snippets.specs.Settings.{plain_settings, styled_settings}
use Rattle.program.specs.declared.options.Options.{Options}

-- the settings that options ask for: those of `styled` or of `plain`, but for the form, the strokes and the width
abbrev pub settings_of : Options → Renderer
settings_of options =
    record (if options.styled then styled_settings else plain_settings) {
      no_graphics = options.text;
      short_message = options.short;
      decor_style = if options.unicode then Unicode else Ascii;
      term_width = unwrap_or options.width 140;
    }
