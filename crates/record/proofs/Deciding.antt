-- Guessing a line from its bytes, and telling whether the guess is right.
use Rattle.std.proofs.Common.{◌≡◌, ℕ, List, get_or, Some, None, Option, sym, ap, ◌∙◌, subst}
use Rattle.blocks.specs.declared.line.Line.{Line}
use Rattle.blocks.specs.declared.line.Line.TheVariants.{Take}
use Rattle.blocks.specs.Lines.{BlockNumber}
use Rattle.record.specs.LineBytes.{line_bytes, Says}
use Rattle.record.proofs.Lettered.{block_in, reads_block, is_take, same_line}

-- bytes that tell a t line, and are not that line's, say nothing
pub misspelt : (bs : List ℕ) (b : BlockNumber) → get_or bs 0 0 ≡ 116 → block_in bs ≡ b.number → (bs ≡ line_bytes (Take b) → ⊥) → Says bs None
misspelt bs b c n other l e =
    let same = is_take l b (sym (ap (λ xs. get_or xs 0 0) e) ∙ c) (sym (reads_block bs l e) ∙ n) in
    other (subst (λ k. bs ≡ line_bytes k) same e)

-- what some bytes say is the line that has them
pub said_back : (bs : List ℕ) (r : Option Line) → Says bs r → (l : Line) → bs ≡ line_bytes l → r ≡ Some l
said_back bs (Some k) says l e = ap Some (same_line k l (sym says ∙ e))
said_back bs None says l e = absurd (says l e)
