-- What a scale means, whatever its kind of value is.
use Rattle.std.specs.Prelude.{ℕ}
use Rattle.scales.specs.Laws.{ScaleLaws}
use Rattle.scales.specs.declared.scale.Scale.{Ghosts}

pub record ScaleModel : Type 1 where
  pub Value : Type 0
  pub On : Value → Type 0
  pub Earlier : Value → Value → Type 0
  pub position : Value → ℕ
  pub standing : ℕ → Value
  pub top : ℕ

-- what a scale of the program means
abbrev pub model_of : {S V : Type 0} → Ghosts S V → S → ScaleModel
model_of {S} {V} g s =
    record { Value = V; On = g.on s; Earlier = g.earlier s; position = g.position s; standing = g.standing s; top = g.top s }

-- the scale keeps the laws
abbrev pub Keeps : ScaleModel → Type 0
Keeps m = ScaleLaws m.On m.Earlier m.position m.standing m.top
