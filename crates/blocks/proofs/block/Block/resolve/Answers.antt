use Rattle.std.proofs.Common.{◌≡◌, ℕ, ◌<◌, Some, None, Err, sym, ◌∙◌, subst, inl, arith}
use Rattle.std.specs.Option.{ok_or}
use Rattle.std.proofs.lemmas.Result.{err_from_is_err_and}
use Rattle.std.proofs.lemmas.List.{length-set}
use Rattle.blocks.specs.declared.block.Block.{Block}
use Rattle.blocks.specs.Ranges.{Ranges, In}
use Rattle.blocks.specs.Views.{nought, ranges}
use Rattle.blocks.proofs.Arrays.{set_more}
use Rattle.blocks.proofs.Ranging.{resolve_in}
use Rattle.blocks.proofs.Resolving.{Made, joined, met, not_resolvable, all_near, all_made}
use Rattle.blocks.proofs.block.Block.resolve.Goals.{then-i-setting, else-i-setting}
use Rattle.blocks.proofs.block.Block.resolve.Goals as goal

pub returns-in_err-intervals : goal.returns-in_err-intervals
returns-in_err-intervals c =
    let s = c.args.setting in
    let a = c.args.self.now in
    let b = c.args.other.now in
    let i = c.loop-i.i in
    let here : Made s (ranges a) (ranges b) i c.if-i-setting.both = elim c.if-i-setting.branch [
      | then-i-setting w ↦ subst (Made s (ranges a) (ranges b) i) (sym w.both-is) (joined s a b i c.loop-i-test.true _ _ w.if-i-setting.true w.join-both.result w.join-both.ensures)
      | else-i-setting w ↦ subst (Made s (ranges a) (ranges b) i) (sym w.both-is) (met s a b i c.loop-i-test.true _ _ w.if-i-setting.false w.meet-both.result w.meet-both.ensures)
    ] in
    let p = err_from_is_err_and c.from_residual.result c.from_residual.ensures.1 in
    let none : c.if-i-setting.both ≡ None = c.in_err-intervals.ensures.ok_part in
    let said : Err c.in_err-intervals.field-0.0 ≡ ok_or c.if-i-setting.both c.of.result = c.in_err-intervals.ensures.value in
    let is : c.in_err-intervals.field-0.0 ≡ c.of.result = let e = rw none at said in cc in
    rw (p.1, p.2) (inl (not_resolvable s a b i (subst (Made s (ranges a) (ranges b) i) none here), is ∙ c.of.ensures))

pub loop-i-preserved : goal.loop-i-preserved
loop-i-preserved c =
    let s = c.args.setting in
    let a = c.args.self.now in
    let b = c.args.other.now in
    let i = c.loop-i.i in
    let r = c.in_ok-intervals.field-0 in
    let here : Made s (ranges a) (ranges b) i c.if-i-setting.both = elim c.if-i-setting.branch [
      | then-i-setting w ↦ subst (Made s (ranges a) (ranges b) i) (sym w.both-is) (joined s a b i c.loop-i-test.true _ _ w.if-i-setting.true w.join-both.result w.join-both.ensures)
      | else-i-setting w ↦ subst (Made s (ranges a) (ranges b) i) (sym w.both-is) (met s a b i c.loop-i-test.true _ _ w.if-i-setting.false w.meet-both.result w.meet-both.ensures)
    ] in
    let some : c.if-i-setting.both ≡ Some r = c.in_ok-intervals.ensures.ok_part in
    record {
      twelve = length-set c.loop-i.intervals i r ∙ c.loop-i.invariant.twelve;
      made = set_more (λ k x. Made s (ranges a) (ranges b) k (Some x)) c.loop-i.intervals i r nought (omega (arith, c.loop-i.invariant.twelve)) c.loop-i.invariant.made (subst (Made s (ranges a) (ranges b) i) some here);
    }

pub returns : goal.returns
returns c =
    let s = c.args.setting in
    let a = c.args.self.now in
    let b = c.args.other.now in
    let made : Block = record { intervals = c.loop-i.intervals; twelve = c.loop-i.invariant.twelve } in
    let each = λ (k : ℕ) (l : k < 12). c.loop-i.invariant.made k (omega arith) in
    let ok = all_near s a b made each in
    ((ok, tt), (all_made s a b made each, λ x h. resolve_in s (ranges a) (ranges b) ok x (subst (λ (g : Ranges). In g x) (all_made s a b made each) h)))
