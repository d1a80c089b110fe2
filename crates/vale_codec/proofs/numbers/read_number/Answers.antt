use Rattle.std.proofs.Common.{◌≡◌, ℕ, suc, ◌+◌, ◌-◌, ◌*◌, drop, List, Ok, arith, inl, inr, sym, ap, ◌∙◌}
use Rattle.vale_codec.proofs.NumberSteps.{begins_at, goes_on, turns_bad, stays_bad, bad_read, good_read, large_read, unended_read}
use Rattle.vale_codec.proofs.numbers.read_number.Goals.{then-worth-eq0-via-then-worth-eq0, then-worth-eq0-via-else-worth-eq0+then-worth-limit}
use Rattle.vale_codec.proofs.numbers.read_number.Goals as goal

pub returns-in_default-clause-given : goal.returns-in_default-clause-given
returns-in_default-clause-given c = unended_read c.args.limit c.args.bytes.now c.in_default.ensures.none

pub loop-place-init : goal.loop-place-init
loop-place-init c =
    let e = c.in-Some.ensures.some in
    record {
      at = rw c.from-worth.ensures (begins_at c.args.bytes.now c.in-Some.end e.0 e.1);
      within = omega arith;
      known = e.2;
      inside = e.0;
    }

pub returns-then-worth-eq0-clause-given : goal.returns-then-worth-eq0-clause-given
returns-then-worth-eq0-clause-given c =
    let i = c.loop-place.place - 1 in
    let v = c.loop-place.invariant in
    let bytes = c.args.bytes.now in
    let known = v.known i (omega arith) in
    bad_read c.args.limit bytes (stays_bad bytes i c.args.limit (omega arith) (λ k lt. v.known k (omega arith))
    (turns_bad bytes (drop (suc c.in-Some.end) bytes) i c.loop-place.place c.loop-place.worth c.args.limit (omega arith) (omega arith) known
    (elim c.then-worth-eq0.branch [ then-worth-eq0-via-then-worth-eq0 w ↦ inl (omega arith) | then-worth-eq0-via-else-worth-eq0+then-worth-limit w ↦ inr (omega arith) ])
    v.at))

pub returns-then-low-limit-clause-given : goal.returns-then-low-limit-clause-given
returns-then-low-limit-clause-given c =
    let i = c.loop-place.place - 1 in
    let v = c.loop-place.invariant in
    let bytes = c.args.bytes.now in
    let known = v.known i (omega arith) in
    bad_read c.args.limit bytes (stays_bad bytes i c.args.limit (omega arith) (λ k lt. v.known k (omega arith))
    (turns_bad bytes (drop (suc c.in-Some.end) bytes) i c.loop-place.place c.loop-place.worth c.args.limit (omega arith) (omega arith) known
    (inr (omega arith)) v.at))

pub loop-place-preserved : goal.loop-place-preserved
loop-place-preserved c =
    let i = c.loop-place.place - 1 in
    let v = c.loop-place.invariant in
    let bytes = c.args.bytes.now in
    let known = v.known i (omega arith) in
    record {
      at = goes_on bytes (drop (suc c.in-Some.end) bytes) i c.loop-place.place c.loop-place.worth (c.from-low.result + 128 * c.loop-place.worth) (omega arith) (omega arith) known (omega arith) (omega arith) v.at;
      within = omega arith;
      known = v.known;
      inside = v.inside;
    }

pub returns-then-worth-limit-2-clause-given : goal.returns-then-worth-limit-2-clause-given
returns-then-worth-limit-2-clause-given c =
    large_read c.args.limit c.loop-place.worth c.loop-place.place c.args.bytes.now (drop (suc c.in-Some.end) c.args.bytes.now) (omega arith) c.if-worth-limit-2.true c.loop-place.invariant.at

pub returns-clause-given : goal.returns-clause-given
returns-clause-given c =
    let k : suc c.in-Some.end ≡ c.in-Some.end + 1 = omega arith in
    let e : drop (suc c.in-Some.end) c.args.bytes.now ≡ c.split_at.result.1.now = ap (λ (k : ℕ). drop k c.args.bytes.now) k ∙ sym c.split_at.ensures.back in
    good_read c.args.limit c.loop-place.worth c.loop-place.place c.args.bytes.now (drop (suc c.in-Some.end) c.args.bytes.now) (omega arith) c.if-worth-limit-2.false c.loop-place.invariant.at
    ∙ ap (λ (r : List ℕ). Ok (c.loop-place.worth, r)) e
