-- What a cell stands in, as the code has it.
use Rattle.snippet_grid.specs.Html.{HtmlLook}
use Rattle.snippet_grid.specs.declared.html.TagLook.{TagLook}

-- the class and the address, each as a text
abbrev pub look_seen : TagLook → HtmlLook
look_seen look = record { class = look.class.now; address = look.address.now }
