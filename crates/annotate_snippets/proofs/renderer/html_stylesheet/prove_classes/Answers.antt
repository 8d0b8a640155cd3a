use Rattle.annotate_snippets.proofs.Common.{[], ◌∷◌, All, List, map, refl, All-cons, All-nil, class_of, IsClassOfRole, ElementStyle, MainHeaderMsg}
use Rattle.annotate_snippets.proofs.Common.{LineNumber, UnderlineSecondary, Addition, Removal, Error, Warning, Info, Note, Help}
use Rattle.snippet_style.specs.declared.role.ElementStyle.TheVariants.{Level}
use Rattle.annotate_snippets.proofs.renderer.html_stylesheet.prove_classes.Goals as goal

-- the classes of roles, in a group that is an error's
of_roles : (roles : List ElementStyle) → All IsClassOfRole (map (class_of Error) roles)
of_roles [] = All-nil IsClassOfRole
of_roles (role ∷ roles) =
    All-cons IsClassOfRole (class_of Error role) (map (class_of Error) roles) (record { level = Error; role = role; is = refl }) (of_roles roles)

-- the roles whose classes the sheet names, in order: for a light page, and for a dark one
abbrev roles_named : List ElementStyle
roles_named =
    Level Error ∷ Level Warning ∷ Level Info ∷ Level Note ∷ Level Help ∷ LineNumber ∷ MainHeaderMsg ∷ UnderlineSecondary ∷ Addition ∷ Removal
    ∷ Level Error ∷ Level Warning ∷ Level Info ∷ Level Note ∷ Level Help ∷ LineNumber ∷ UnderlineSecondary ∷ Addition ∷ Removal ∷ []

pub returns-clause-no_other : goal.returns-clause-no_other
returns-clause-no_other c = of_roles roles_named
