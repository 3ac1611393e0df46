-- Rules that no profile meets together, and the worked sheet of such rules, with its grounds.
use Rattle.std.specs.Prelude.{List, [], ◌∷◌, slice_index}
use Rattle.blocks.specs.declared.bound.Bound.{Bound}
use Rattle.blocks.specs.declared.bound.Bound.TheVariants.{AtMost, AtLeast}
use Rattle.blocks.specs.declared.line.Line.{Line}
use Rattle.blocks.specs.Bounds.{Profile}
use Rattle.blocks.specs.Lines.{t_line, r_line, k_line, e_line}
use Rattle.blocks.specs.Ranges.{everything, In}
use Rattle.blocks.specs.Sheets.{Sheet, Breaks}

-- every profile breaks a rule
abbrev pub Impossible : Sheet → Type 0
Impossible S = (x : Profile) → In (everything S.last) x → Breaks S x

-- two settings of last 1
abbrev pub two_settings : Sheet
two_settings = record { count = 2; last = λ i. slice_index (1 ∷ 1 ∷ []) i; rules = [] }

-- x ≤ 0 or y ≤ 0; x ≤ 0 or y ≥ 1; x ≥ 1 or y ≤ 0; x ≥ 1 or y ≥ 1
abbrev pub four_rules : List (List Bound)
four_rules =
    (AtMost 0 0 ∷ AtMost 1 0 ∷ [])
    ∷ (AtMost 0 0 ∷ AtLeast 1 1 ∷ [])
    ∷ (AtLeast 0 1 ∷ AtMost 1 0 ∷ [])
    ∷ (AtLeast 0 1 ∷ AtLeast 1 1 ∷ [])
    ∷ []

-- the grounds for a "none" on them: y is nothing with x at 0, nor with x at 1
abbrev pub four_grounds : List Line
four_grounds = t_line 3 ∷ r_line 2 1 ∷ k_line 100 ∷ t_line 1 ∷ r_line 0 1 ∷ r_line 100 0 ∷ e_line ∷ []
