-- An analysis of the program, entry by entry.
use Rattle.std.proofs.Common.{◌≡◌, ℕ, suc, ◌<◌, ◌≤◌, List, [], ◌∷◌, ◌++◌, length, get_or, take, Some, None, Option, sym, refl, ap, ◌∙◌, subst, subst₂, append_assoc, append-nil, length-append, arith}
use Rattle.std.proofs.Math.Seq.{take-append_seam}
use Rattle.std.proofs.lemmas.List.{get_or-take, get_or_push, take-take}
use Rattle.rows.specs.Items.{items}
use Rattle.blocks.specs.declared.bound.Bound.{Bound}
use Rattle.blocks.specs.declared.line.Line.{Line}
use Rattle.blocks.specs.Lines.{r_line, e_line}
use Rattle.blocks.specs.Bounds.{setting}
use Rattle.blocks.specs.Ranges.{Ranges, Stands, Inside, end, with_end, narrow, resolve, Resolvable}
use Rattle.blocks.specs.Sheets.{Sheet, Proper, block_at}
use Rattle.blocks.specs.Sinks.{Step}
use Rattle.blocks.specs.Views.{Real}
use Rattle.blocks.proofs.Numbers.{Lawful}
use Rattle.blocks.proofs.Ranging.{broken_inside, undo_narrow}
use Rattle.search.specs.declared.trail.Trail.{Trail}
use Rattle.search.specs.declared.trail.TrailEntry.{TrailEntry}
use Rattle.search.specs.Search.{Entry, forced, region, Outcome, learnt, over, Analysis, out, pass, into, stop}
use Rattle.search.specs.Tallies.{Feed, fed, fed_all}
use Rattle.search.specs.Trails.{Reason, reasoned, entry_of, no_entry, trail_below, trail_of, KeepsEnds}
use Rattle.search.specs.Analyses.{Ready, Analysed}
use Rattle.search.proofs.Feeding.{fed_more}
use Rattle.search.proofs.Trailing.{reasoned_bound}
use Rattle.search.proofs.Sound.{Sound, sound_open, region_stands, steps_good, good_start, resolved}

-- the entries from the n-th backward, and what is left of the analysis
pub record Midway {M : Type 0} (step : M → Line → Step M) (S : Sheet) (pr : Proper S) (slots : ℕ → Option Ranges) (t : Trail) (w₀ : Ranges) (f₀ : Feed M) (n : ℕ) (g w : Ranges) (f : Feed M) : Type 0 where
  pub few : n ≤ length (items t.entries)
  pub done : List Line
  pub told : f ≡ fed_all step f₀ done
  pub leads : (ls : List Line) (o : Outcome) → Analysis S.last (block_at S.rules slots) (trail_below (items t.entries) n) w ls o
      → Analysis S.last (block_at S.rules slots) (trail_of t) w₀ (done ++ ls) o
  pub left : g ≡ region S.last (trail_below (items t.entries) n)
  pub lawful : Lawful S (block_at S.rules slots)
  pub sound : Sound S.last (block_at S.rules slots) (trail_below (items t.entries) n)
  pub inside : Inside g w
  pub stands : Stands S.last w
  pub ends : KeepsEnds S.last (items t.entries)

module _ {M : Type 0} {step : M → Line → Step M} {S : Sheet} {pr : Proper S} {slots : ℕ → Option Ranges} {t : Trail} {w₀ : Ranges} {f₀ : Feed M} where
  pub midway_start : {g : Ranges} → Ready S slots t g w₀ → Midway step S pr slots t w₀ f₀ (length (items t.entries)) g w₀ f₀
  midway_start {g} r =
      let good = steps_good S r.room r.steps (good_start S pr) in
      let gs = subst (Stands S.last) (sym r.left) (region_stands S.last (block_at S.rules slots) (trail_of t) good.trail) in
      record {
        few = omega arith;
        done = [];
        told = refl;
        leads = λ ls o a. a;
        left = r.left;
        lawful = good.blocks;
        sound = good.trail;
        inside = broken_inside S.last g gs w₀ r.broken;
        stands = (good.blocks r.number w₀ r.there).0;
        ends = r.ends;
      }

  module _ {n : ℕ} {g w : Ranges} {f : Feed M} (mid : Midway step S pr slots t w₀ f₀ n g w f) where
    -- the entries ran out
    pub midway_over : (0 < n → ⊥) → {f' : Feed M} → f' ≡ fed step f e_line → Analysed step S slots t w₀ f₀ None g w f'
    midway_over l tell = record {
      lines = mid.done ++ e_line ∷ [];
      analysis = mid.leads (e_line ∷ []) over (subst (λ (k : ℕ). Analysis S.last (block_at S.rules slots) (trail_below (items t.entries) k) w (e_line ∷ []) over) none out);
      told = tell ∙ ap (λ (x : Feed M). fed step x e_line) mid.told ∙ sym (fed_more step f₀ mid.done (e_line ∷ []));
      left = tt;
    }
      where
        none : 0 ≡ n
        none = omega arith

  -- one entry back, which is x
  module _ {ys : List TrailEntry} {g w : Ranges} {f : Feed M} (mid₀ : Midway step S pr slots t w₀ f₀ (length ys) g w f) (front : ys ≡ take (length ys) (items t.entries)) (ys' : List TrailEntry) (x : TrailEntry) (last : ys ≡ ys' ++ x ∷ []) where
    longer : length ys ≡ suc (length ys')
    longer = omega (arith, ap length last, length-append ys' (x ∷ []))

    mid : Midway step S pr slots t w₀ f₀ (suc (length ys')) g w f
    mid = subst (λ (n : ℕ). Midway step S pr slots t w₀ f₀ n g w f) longer mid₀

    ex : x ≡ get_or (items t.entries) (length ys') no_entry
    ex = sym (get_or_push ys' x no_entry (length ys') refl) ∙ ap (λ (zs : List TrailEntry). get_or zs (length ys') no_entry) (sym last ∙ front) ∙ get_or-take (length ys) (items t.entries) (length ys') no_entry (omega (arith, longer))

    -- the rest is a front too
    pub rest_front : ys' ≡ take (length ys') (items t.entries)
    rest_front = sym (take-append_seam ys' (x ∷ [])) ∙ ap (take (length ys')) (sym last ∙ front) ∙ take-take (length ys') (length ys) (items t.entries) (omega (arith, longer))

    split : trail_below (items t.entries) (suc (length ys')) ≡ reasoned x.bound x.reason ∷ trail_below (items t.entries) (length ys')
    split = λ i. entry_of (sym ex i) ∷ trail_below (items t.entries) (length ys')

    known : Sound S.last (block_at S.rules slots) (reasoned x.bound x.reason ∷ trail_below (items t.entries) (length ys'))
    known = subst (Sound S.last (block_at S.rules slots)) split mid.sound

    opened : Sound S.last (block_at S.rules slots) (trail_below (items t.entries) (length ys'))
    opened = (sound_open S.last (block_at S.rules slots) (reasoned x.bound x.reason) (trail_below (items t.entries) (length ys')) known).1

    narrowed : g ≡ narrow x.bound (region S.last (trail_below (items t.entries) (length ys')))
    narrowed = mid.left ∙ ap (region S.last) split ∙ ap (λ (β : Bound). narrow β (region S.last (trail_below (items t.entries) (length ys')))) (reasoned_bound x.bound x.reason)

    kept : x.end ≡ end x.bound (region S.last (trail_below (items t.entries) (length ys')))
    kept =
        let few = mid.few in
        ap (λ (y : TrailEntry). y.end) ex ∙ mid.ends (length ys') (omega arith) ∙ sym (ap (λ (y : TrailEntry). end y.bound (region S.last (trail_below (items t.entries) (length ys')))) ex)

    undone : with_end x.bound x.end g ≡ region S.last (trail_below (items t.entries) (length ys'))
    undone =
        ap (with_end x.bound x.end) narrowed
        ∙ ap (λ (p : ℕ). with_end x.bound p (narrow x.bound (region S.last (trail_below (items t.entries) (length ys'))))) kept
        ∙ undo_narrow x.bound (region S.last (trail_below (items t.entries) (length ys')))

    pub undone_real : Real (with_end x.bound x.end g)
    undone_real = subst Real (sym undone) (record {
      ordered = λ i. (there i).0;
      twelve = λ i l. let s = there i in let b = pr.beyond i (let c = pr.twelve in omega arith) in omega arith;
    })
      where
        there : Stands S.last (region S.last (trail_below (items t.entries) (length ys')))
        there = region_stands S.last (block_at S.rules slots) (trail_below (items t.entries) (length ys')) opened

    leads : (ls : List Line) (o : Outcome) → Analysis S.last (block_at S.rules slots) (reasoned x.bound x.reason ∷ trail_below (items t.entries) (length ys')) w ls o
        → Analysis S.last (block_at S.rules slots) (trail_of t) w₀ (mid.done ++ ls) o
    leads ls o a = mid.leads ls o (subst (λ (u : List Entry). Analysis S.last (block_at S.rules slots) u w ls o) (sym split) a)

    module _ {h : Ranges} (is : h ≡ with_end x.bound x.end g) where
      here : h ≡ region S.last (trail_below (items t.entries) (length ys'))
      here = is ∙ undone

      needed : (Inside h w → ⊥) → Inside (region S.last (trail_below (items t.entries) (length ys'))) w → ⊥
      needed out' i = out' (subst (λ (y : Ranges). Inside y w) (sym here) i)

      -- not needed
      pub midway_pass : Inside h w → Midway step S pr slots t w₀ f₀ (length ys') h w f
      midway_pass i = record {
        few = let k = mid.few in omega arith;
        done = mid.done;
        told = mid.told;
        leads = λ ls o a. leads ls o (pass (subst (λ (y : Ranges). Inside y w) here i) a);
        left = here;
        lawful = mid.lawful;
        sound = opened;
        inside = i;
        stands = mid.stands;
        ends = mid.ends;
      }

      -- needed and decided
      pub midway_stop : (Inside h w → ⊥) → x.reason ≡ None → Analysed step S slots t w₀ f₀ (Some (length ys')) h w f
      midway_stop out' r = record {
        lines = mid.done;
        analysis = subst (λ (ls : List Line). Analysis S.last (block_at S.rules slots) (trail_of t) w₀ ls (learnt w (trail_below (items t.entries) (length ys')))) (append-nil mid.done)
            (leads [] (learnt w (trail_below (items t.entries) (length ys')))
            (subst (λ (y : Reason). Analysis S.last (block_at S.rules slots) (reasoned x.bound y ∷ trail_below (items t.entries) (length ys')) w [] (learnt w (trail_below (items t.entries) (length ys')))) (sym r) (stop (needed out'))));
        told = mid.told;
        left = (let k = mid.few in omega arith, here);
      }

      -- needed, with a reason
      module _ {k : ℕ} (r : x.reason ≡ Some k) where
        because : Sound S.last (block_at S.rules slots) (forced x.bound k ∷ trail_below (items t.entries) (length ys'))
        because = subst (λ (y : Reason). Sound S.last (block_at S.rules slots) (reasoned x.bound y ∷ trail_below (items t.entries) (length ys'))) r known

        into_it : Resolvable (setting x.bound) w because.2.0 × Inside (region S.last (trail_below (items t.entries) (length ys'))) (resolve (setting x.bound) w because.2.0) × Stands S.last (resolve (setting x.bound) w because.2.0)
        into_it = resolved S (block_at S.rules slots) mid.lawful x.bound k because.2.0 (trail_below (items t.entries) (length ys')) w because.2.1 because (subst (λ (y : Ranges). Inside y w) narrowed mid.inside) mid.stands

        pub reason_block : {s : ℕ} → s ≡ setting x.bound → (b : Ranges) × (block_at S.rules slots k ≡ Some b) × Resolvable s w b
        reason_block e = (because.2.0, because.2.1, subst (λ (i : ℕ). Resolvable i w because.2.0) (sym e) into_it.0)

        pub midway_into : {s : ℕ} → s ≡ setting x.bound → (Inside h w → ⊥) → {v : Ranges} → ((b : Ranges) → block_at S.rules slots k ≡ Some b → v ≡ resolve s w b)
            → {f' : Feed M} → f' ≡ fed step f (r_line k s) → Midway step S pr slots t w₀ f₀ (length ys') h v f'
        midway_into {s} e out' {v} made {f'} tell =
            let l = r_line k (setting x.bound) in
            let ev : v ≡ resolve (setting x.bound) w because.2.0 = made because.2.0 because.2.1 ∙ ap (λ (i : ℕ). resolve i w because.2.0) e in
            record {
              few = let q = mid.few in omega arith;
              done = mid.done ++ l ∷ [];
              told = tell ∙ ap (λ (i : ℕ). fed step f (r_line k i)) e ∙ ap (λ (y : Feed M). fed step y l) mid.told ∙ sym (fed_more step f₀ mid.done (l ∷ []));
              leads = λ ls o a.
                  subst (λ (ks : List Line). Analysis S.last (block_at S.rules slots) (trail_of t) w₀ ks o) (sym (append_assoc mid.done (l ∷ []) ls))
                  (leads (l ∷ ls) o
                  (subst (λ (y : Reason). Analysis S.last (block_at S.rules slots) (reasoned x.bound y ∷ trail_below (items t.entries) (length ys')) w (l ∷ ls) o) (sym r)
                  (into (needed out') because.2.1 (subst (λ (y : Ranges). Analysis S.last (block_at S.rules slots) (trail_below (items t.entries) (length ys')) y ls o) ev a))));
              left = here;
              lawful = mid.lawful;
              sound = opened;
              inside = subst₂ Inside (sym here) (sym ev) into_it.1;
              stands = subst (Stands S.last) (sym ev) into_it.2;
              ends = mid.ends;
            }
