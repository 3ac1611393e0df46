-- Worked lines, over the definitions that the calls' contracts cite.
use Rattle.std.specs.Prelude.{◌≡◌, ℕ, List, [], ◌∷◌, ◌++◌, None, codes}
use Rattle.blocks.specs.declared.line.Line.TheVariants.{Take, Resolve, Keep, End}
use Rattle.blocks.specs.Lines.{block_number, setting_number}
use Rattle.record.specs.LineBytes.{line_bytes, Says}

-- nine bytes and byte 10
abbrev pub ended : List ℕ → List ℕ
ended bs = bs ++ 10 ∷ []

pub record WorkedLines : Type 0 where
  pub take_3 : line_bytes (Take (block_number 3)) ≡ ended (codes "t    3  0")
  pub resolve_2 : line_bytes (Resolve (block_number 2) (setting_number 1)) ≡ ended (codes "r    2  1")
  pub keep_100 : line_bytes (Keep (block_number 100)) ≡ ended (codes "k  100  0")
  pub end : line_bytes End ≡ ended (codes "e    0  0")
  -- the largest numbers fill their columns
  pub largest : line_bytes (Resolve (block_number 99999) (setting_number 999)) ≡ ended (codes "r99999999")
  -- a zero before a number, a minus, and a setting where none is used
  pub zero_before : Says (ended (codes "t   03  0")) None
  pub minus : Says (ended (codes "t   -3  0")) None
  pub unused : Says (ended (codes "t    3  1")) None
