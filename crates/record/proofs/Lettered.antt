-- A line and its ten bytes determine each other.
use Rattle.std.proofs.Common.{◌≡◌, ℕ, ◌+◌, ◌*◌, ◌/◌, ◌%◌, ◌≤◌, List, [], ◌∷◌, ◌++◌, length, get_or, sym, refl, ap, ◌∙◌, arith}
use Rattle.blocks.specs.declared.line.Line.{Line}
use Rattle.blocks.specs.declared.line.Line.TheVariants.{Take, Resolve, Keep, End}
use Rattle.blocks.specs.Lines.{BlockNumber, SettingNumber, letter, block_column, setting_column}
use Rattle.blocks.proofs.Numbered.{same_number}
use Rattle.record.specs.Digits.{last_digit, front_byte, worth}
use Rattle.record.specs.LineBytes.{line_bytes}
use Rattle.record.proofs.Justified.{five_columns, three_columns, last_worth, front_worth}

pub small_block : (l : Line) → block_column l ≤ 99999
small_block (Take b) = b.small
small_block (Resolve b s) = b.small
small_block (Keep b) = b.small
small_block End = omega arith

pub small_setting : (l : Line) → setting_column l ≤ 999
small_setting (Take b) = omega arith
small_setting (Resolve b s) = s.small
small_setting (Keep b) = omega arith
small_setting End = omega arith

-- a letter, and the two numbers in their columns
abbrev pub ten_bytes : ℕ → ℕ → ℕ → List ℕ
ten_bytes c n m =
    c ∷ front_byte (n / 10000) ∷ front_byte (n / 1000) ∷ front_byte (n / 100) ∷ front_byte (n / 10) ∷ last_digit n
    ∷ front_byte (m / 100) ∷ front_byte (m / 10) ∷ last_digit m ∷ 10 ∷ []

pub line_is_ten : (l : Line) → line_bytes l ≡ ten_bytes (letter l) (block_column l) (setting_column l)
line_is_ten l =
    let b = five_columns (block_column l) (small_block l) in
    let s = three_columns (setting_column l) (small_setting l) in
    λ i. letter l ∷ (b i ++ (s i ++ 10 ∷ []))

-- the numbers that the columns of ten bytes are worth
abbrev pub block_in : List ℕ → ℕ
block_in bs = worth (get_or bs 1 0) * 10000 + worth (get_or bs 2 0) * 1000 + worth (get_or bs 3 0) * 100 + worth (get_or bs 4 0) * 10 + worth (get_or bs 5 0)

abbrev pub setting_in : List ℕ → ℕ
setting_in bs = worth (get_or bs 6 0) * 100 + worth (get_or bs 7 0) * 10 + worth (get_or bs 8 0)

block_back : (c n m : ℕ) → n ≤ 99999 → block_in (ten_bytes c n m) ≡ n
block_back c n m h =
    let a = front_worth (n / 10000) in
    let b = front_worth (n / 1000) in
    let d = front_worth (n / 100) in
    let e = front_worth (n / 10) in
    let f = last_worth n in
    let p : n / 1000 ≡ n / 10000 * 10 + n / 1000 % 10 = omega arith in
    let q : n / 100 ≡ n / 1000 * 10 + n / 100 % 10 = omega arith in
    let r : n / 10 ≡ n / 100 * 10 + n / 10 % 10 = omega arith in
    let t : n ≡ n / 10 * 10 + n % 10 = omega arith in
    let u : n / 10000 ≡ n / 10000 % 10 = omega arith in
    rw (a, b, d, e, f) (omega arith)

setting_back : (c n m : ℕ) → m ≤ 999 → setting_in (ten_bytes c n m) ≡ m
setting_back c n m h =
    let a = front_worth (m / 100) in
    let b = front_worth (m / 10) in
    let d = last_worth m in
    rw (a, b, d) (omega arith)

pub reads_block : (bs : List ℕ) (l : Line) → bs ≡ line_bytes l → block_in bs ≡ block_column l
reads_block bs l e = ap block_in (e ∙ line_is_ten l) ∙ block_back (letter l) (block_column l) (setting_column l) (small_block l)

pub reads_setting : (bs : List ℕ) (l : Line) → bs ≡ line_bytes l → setting_in bs ≡ setting_column l
reads_setting bs l e = ap setting_in (e ∙ line_is_ten l) ∙ setting_back (letter l) (block_column l) (setting_column l) (small_setting l)

-- a letter, and the numbers in the columns that it uses, tell a line
pub is_take : (l : Line) (b : BlockNumber) → letter l ≡ 116 → block_column l ≡ b.number → l ≡ Take b
is_take (Take d) b c e = ap Take (same_number d b e)
is_take (Resolve d t) b c e = absurd (omega arith)
is_take (Keep d) b c e = absurd (omega arith)
is_take End b c e = absurd (omega arith)

pub is_resolve : (l : Line) (b : BlockNumber) (s : SettingNumber) → letter l ≡ 114 → block_column l ≡ b.number → setting_column l ≡ s.number → l ≡ Resolve b s
is_resolve (Take d) b s c e f = absurd (omega arith)
is_resolve (Resolve d t) b s c e f =
    let p = same_number d b e in
    let q = same_number t s f in
    λ i. Resolve (p i) (q i)
is_resolve (Keep d) b s c e f = absurd (omega arith)
is_resolve End b s c e f = absurd (omega arith)

pub is_keep : (l : Line) (b : BlockNumber) → letter l ≡ 107 → block_column l ≡ b.number → l ≡ Keep b
is_keep (Take d) b c e = absurd (omega arith)
is_keep (Resolve d t) b c e = absurd (omega arith)
is_keep (Keep d) b c e = ap Keep (same_number d b e)
is_keep End b c e = absurd (omega arith)

pub is_end : (l : Line) → letter l ≡ 101 → l ≡ End
is_end (Take d) c = absurd (omega arith)
is_end (Resolve d t) c = absurd (omega arith)
is_end (Keep d) c = absurd (omega arith)
is_end End c = refl

told_apart : (l m : Line) → letter l ≡ letter m → block_column l ≡ block_column m → setting_column l ≡ setting_column m → l ≡ m
told_apart l (Take b) c e f = is_take l b c e
told_apart l (Resolve b s) c e f = is_resolve l b s c e f
told_apart l (Keep b) c e f = is_keep l b c e
told_apart l End c e f = is_end l c

pub same_line : (l m : Line) → line_bytes l ≡ line_bytes m → l ≡ m
same_line l m e =
    told_apart l m (ap (λ bs. get_or bs 0 0) e) (sym (reads_block (line_bytes l) l refl) ∙ reads_block (line_bytes l) m e)
    (sym (reads_setting (line_bytes l) l refl) ∙ reads_setting (line_bytes l) m e)

pub line_length : (l : Line) → length (line_bytes l) ≡ 10
line_length l = ap length (line_is_ten l)
