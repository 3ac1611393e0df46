-- The search: what one step is, what an end is, and which lines they make.
use Rattle.std.specs.Prelude.{◌≡◌, ℕ, suc, ◌+◌, ◌<◌, cond, ◌⊎◌, List, [], ◌∷◌, ◌++◌, Some, None, Option, nat_eq, nat_le}
use Rattle.std.specs.Map.{update}
use Rattle.blocks.specs.declared.bound.Bound.{Bound}
use Rattle.blocks.specs.declared.line.Line.{Line}
use Rattle.blocks.specs.Lines.{t_line, r_line, k_line, e_line}
use Rattle.blocks.specs.Bounds.{setting}
use Rattle.blocks.specs.Ranges.{Ranges, everything, Inside, narrow, resolve}
use Rattle.blocks.specs.Status.{Dead, Broken, Forcing, Forces, FirstOpen}
use Rattle.blocks.specs.Sheets.{Sheet, block_at}

-- the least number with a property
pub record First (P : ℕ → Type 0) (k : ℕ) : Type 0 where
  pub is : P k
  pub before : (j : ℕ) → j < k → ¬ P j

-- An entry of the trail is a bound with its reason: it was decided, or a block, by its number, forced it.
pub data Entry : Type 0 where
  decided : Bound → Entry
  forced : Bound → ℕ → Entry

abbrev pub bound_of : Entry → Bound
bound_of (decided β) = β
bound_of (forced β k) = β

-- The region: everything, narrowed by each entry. A trail is a list of entries, the last one first.
abbrev pub region : (ℕ → ℕ) → List Entry → Ranges
region last [] = everything last
region last (e ∷ t) = narrow (bound_of e) (region last t)

-- block k is the reason of an entry
abbrev pub IsReason : List Entry → ℕ → Type 0
IsReason [] k = ⊥
IsReason (decided β ∷ t) k = IsReason t k
IsReason (forced β i ∷ t) k = (i ≡ k) ⊎ IsReason t k

-- the trail, the filled slots, and the slot after the one last filled
pub record State : Type 0 where
  pub trail : List Entry
  pub slots : ℕ → Option Ranges
  pub next : ℕ

-- a cold start: no entry, no slot filled, and the round of slots begins at 0
abbrev pub cold : State
cold = record { trail = []; slots = λ _. None; next = 0 }

-- what an analysis comes to: a work block to be kept, with the trail that is left; or the entries ran out
pub data Outcome : Type 0 where
  learnt : Ranges → List Entry → Outcome
  over : Outcome

-- The analysis of a broken block: entries are taken from the last backward, and the lines that this makes.
pub data Analysis (last : ℕ → ℕ) (blocks : ℕ → Option Ranges) : List Entry → Ranges → List Line → Outcome → Type 0 where
  -- the entries run out
  out : {w : Ranges} → Analysis last blocks [] w (e_line ∷ []) over
  -- an entry is not needed where the region before it is inside the work block
  pass : {e : Entry} {t : List Entry} {w : Ranges} {ls : List Line} {o : Outcome} → Inside (region last t) w
      → Analysis last blocks t w ls o → Analysis last blocks (e ∷ t) w ls o
  -- a needed entry with a reason has that block resolved into the work block on the entry's setting
  into : {β : Bound} {k : ℕ} {b : Ranges} {t : List Entry} {w : Ranges} {ls : List Line} {o : Outcome} → ¬ Inside (region last t) w → blocks k ≡ Some b
      → Analysis last blocks t (resolve (setting β) w b) ls o → Analysis last blocks (forced β k ∷ t) w (r_line k (setting β) ∷ ls) o
  -- at a needed decided entry the trail is cut to before it
  stop : {β : Bound} {t : List Entry} {w : Ranges} → ¬ Inside (region last t) w → Analysis last blocks (decided β ∷ t) w [] (learnt w t)

-- which bound of a block is decided: the first open one
abbrev pub DecidesOn : (ℕ → ℕ) → Ranges → Ranges → Bound → Type 0
DecidesOn = FirstOpen

-- how far slot j lies in the round of m slots that begins at next
abbrev pub turn : ℕ → ℕ → ℕ → ℕ
turn m next j = cond (nat_le next j) j (j + m)

-- slot j is the first, going round, that is no entry's reason
pub record FreeSlot (m next : ℕ) (t : List Entry) (j : ℕ) : Type 0 where
  pub inside : j < m
  pub free : ¬ IsReason t (100 + j)
  pub before : (i : ℕ) → i < m → turn m next i < turn m next j → IsReason t (100 + i)

pub data Verdict : Type 0 where
  found : Ranges → Verdict
  none : Verdict
  no_slot : Verdict

-- Over a sheet and m slots.
module _ (S : Sheet) (m : ℕ) where
  abbrev pub blocks_of : State → ℕ → Option Ranges
  blocks_of st = block_at S.rules st.slots

  abbrev pub region_of : State → Ranges
  region_of st = region S.last st.trail

  -- block k is broken or forcing
  abbrev pub Hit : State → ℕ → Type 0
  Hit st k = (b : Ranges) × (blocks_of st k ≡ Some b) × (Broken S.last (region_of st) b ⊎ Forcing S.last (region_of st) b)

  abbrev pub NotDead : State → ℕ → Type 0
  NotDead st k = (b : Ranges) × (blocks_of st k ≡ Some b) × (¬ Dead S.last (region_of st) b)

  -- block k, the first that is broken or forcing, is broken; its analysis makes these lines and comes to this
  pub record Conflict (st : State) (k : ℕ) (ls : List Line) (o : Outcome) : Type 0 where
    pub first : First (Hit st) k
    pub block : Ranges
    pub there : blocks_of st k ≡ Some block
    pub broken : Broken S.last (region_of st) block
    pub analysed : Analysis S.last (blocks_of st) st.trail block ls o

  -- One step, with the lines that it makes.
  pub data Step : State → List Line → State → Type 0 where
    -- the first block broken or forcing forces a bound, which joins the trail
    force : {st : State} {k : ℕ} {b : Ranges} {β : Bound} → First (Hit st) k → blocks_of st k ≡ Some b → Forces S.last (region_of st) b β
        → Step st [] (record { trail = forced β k ∷ st.trail; slots = st.slots; next = st.next })
    -- no block is broken or forcing, and a bound of the first that is not dead is decided
    decide : {st : State} {k : ℕ} {b : Ranges} {β : Bound} → ((j : ℕ) → ¬ Hit st j) → First (NotDead st) k → blocks_of st k ≡ Some b → DecidesOn S.last (region_of st) b β
        → Step st [] (record { trail = decided β ∷ st.trail; slots = st.slots; next = st.next })
    -- a conflict: the work block is kept in the first free slot, and its one open bound joins
    learn : {st : State} {k : ℕ} {ls : List Line} {w : Ranges} {t : List Entry} {j : ℕ} {β : Bound} → Conflict st k ls (learnt w t)
        → FreeSlot m st.next t j → Forces S.last (region S.last t) w β
        → Step st (t_line k ∷ (ls ++ k_line (100 + j) ∷ [])) (record { trail = forced β (100 + j) ∷ t; slots = update nat_eq st.slots j (Some w); next = suc j })

  -- An end, with its lines and its verdict.
  pub data Ends : State → List Line → Verdict → Type 0 where
    -- every block is dead
    all_dead : {st : State} → ((j : ℕ) → ¬ Hit st j) → ((j : ℕ) (b : Ranges) → blocks_of st j ≡ Some b → Dead S.last (region_of st) b) → Ends st [] (found (region_of st))
    -- the entries ran out
    run_out : {st : State} {k : ℕ} {ls : List Line} → Conflict st k ls over → Ends st (t_line k ∷ ls) none
    -- a work block is to be kept, and every slot is a reason
    full : {st : State} {k : ℕ} {ls : List Line} {w : Ranges} {t : List Entry} → Conflict st k ls (learnt w t) → ((j : ℕ) → j < m → IsReason t (100 + j)) → Ends st (t_line k ∷ ls) no_slot

  -- steps one after another, with all their lines
  pub data Steps : State → List Line → State → Type 0 where
    here : {st : State} → Steps st [] st
    on : {a b c : State} {ks ls : List Line} → Steps a ks b → Step b ls c → Steps a (ks ++ ls) c

  -- a run from a start: its lines, its verdict, and the state that it ends in
  pub record Run (start : State) (ls : List Line) (v : Verdict) (end : State) : Type 0 where
    pub before : List Line
    pub after : List Line
    pub steps : Steps start before end
    pub ends : Ends end after v
    pub lines : ls ≡ before ++ after
