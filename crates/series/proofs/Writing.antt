-- What a record holds after lines of which it refused none.
use Rattle.std.proofs.Common.{◌≡◌, ℕ, ◌*◌, List, ◌++◌, length, take, drop, None, Option, sym, refl, ap, ◌∙◌, arith}
use Rattle.std.specs.List.{flat_map}
use Rattle.std.proofs.lemmas.List.{take_at}
use Rattle.blocks.specs.declared.line.Line.{Line}
use Rattle.blocks.specs.Sinks.{Step, taken, state_after}
use Rattle.record.specs.LineBytes.{line_bytes}
use Rattle.record.specs.Pages.{Page, page, writes}
use Rattle.record.specs.Readings.{TakesAll}
use Rattle.record.proofs.Feeding.{joined_length, state_push, takes_push}
use Rattle.record.proofs.Filling.{record_stands}
use Rattle.search.specs.declared.verdict.FirstRefusal.{FirstRefusal}
use Rattle.search.specs.Sends.{Takes, takes_none, takes_more, Sends, all_taken, refused_at}

-- lines that were taken one by one are all taken
module _ {M : Type 0} (step : M → Line → Step M) where
  takes_all : {s t : M} {ls : List Line} → Takes step s ls t → TakesAll step s ls × (state_after step s ls ≡ t)
  takes_all takes_none = (tt, refl)
  takes_all (takes_more {s = s} {t = t} {u = u} {ls = ls} {l = l} k e) =
      let h = takes_all k in
      let on : step (state_after step s ls) l ≡ taken u = ap (λ (v : M). step v l) h.1 ∙ e in
      (takes_push step s u ls l h.0 on, state_push step s u ls l on)

  none_refused : {s t : M} {ls sent : List Line} {stop : Option FirstRefusal} → Sends step s ls sent stop t → stop ≡ None → Takes step s ls t
  none_refused (all_taken k) e = k
  none_refused (refused_at us is k r) e = let z : ◌≡◌ {A = ℕ} 0 1 = cc in absurd (omega arith)

-- just the bytes of the lines, from the front
pub just_written : (ls sent : List Line) (buffer : List ℕ) (p : Page) → Sends writes (page buffer 0) ls sent None p
    → (p.written ≡ 10 * length ls) × (take p.written p.bytes ≡ flat_map line_bytes ls)
just_written ls sent buffer p s = (
  ap (λ (q : Page). q.written) is,
  ap (λ (q : Page). take q.written q.bytes) is ∙ take_at (flat_map line_bytes ls) (drop (10 * length ls) buffer) (10 * length ls) (joined_length ls),
)
  where
    all : TakesAll writes (page buffer 0) ls × (state_after writes (page buffer 0) ls ≡ p)
    all = takes_all writes (none_refused writes s refl)

    is : p ≡ page (flat_map line_bytes ls ++ drop (10 * length ls) buffer) (10 * length ls)
    is = sym all.1 ∙ record_stands.holds buffer ls ((record_stands.takes buffer ls).0 all.0)
