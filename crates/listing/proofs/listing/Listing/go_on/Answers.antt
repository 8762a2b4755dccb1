use Rattle.std.proofs.Common.{sym, ◌∙◌, subst, arith}
use Rattle.calls.specs.Calls.{Ends}
use Rattle.calls.specs.Handing.{Next}
use Rattle.calls.specs.Replies.{next_answer}
use Rattle.calls.specs.declared.answers.Ending.TheVariants as ends
use Rattle.listing.specs.Listings.{memory_of, station_of}
use Rattle.listing.proofs.Calling.{same_through, station_same}
use Rattle.listing.proofs.Running.{ends_at, ends_full, goes_by, answered}
use Rattle.listing.proofs.listing.Listing.go_on.Goals as goal

pub returns-in-Some-clause-ran : goal.returns-in-Some-clause-ran
returns-in-Some-clause-ran g c =
    let l = c.args.self.now in
    let l₁ = c.loop-ending.self in
    let w = station_of l in
    let t = c.args.aim.target in
    let b = c.args.aim.budget in
    let k = c.loop-ending.count in
    let e = c.in-Some.ending in
    let stop = subst (λ v. Ends v t b k (memory_of l₁) e) (sym (station_same l l₁ c.loop-ending.invariant.1)) c.in-Some.ensures in
    answered w t b k (memory_of l) (memory_of l₁) e _ c.ran.ensures (ends_at w t b (memory_of l) k (memory_of l₁) c.loop-ending.invariant.2 e stop)

pub returns-then-is_err-clause-ran : goal.returns-then-is_err-clause-ran
returns-then-is_err-clause-ran g c =
    let l = c.args.self.now in
    let l₁ = c.loop-ending.self in
    let l₂ = c.advance.new.self in
    let w = station_of l in
    let t = c.args.aim.target in
    let b = c.args.aim.budget in
    let k = c.loop-ending.count in
    let next = subst (λ v. Next v (memory_of l₁) (next_answer c.advance.result) (memory_of l₂)) (sym (station_same l l₁ c.loop-ending.invariant.1)) c.advance.ensures.advanced in
    answered w t b k (memory_of l) (memory_of l₂) ends.Full _ c.ran-then-is_err.ensures
    (ends_full w t b (memory_of l) k (memory_of l₁) (memory_of l₂) c.loop-ending.invariant.2 c.in_default.ensures c.advance.result (sym c.is_err.ensures.value ∙ c.if-is_err.true) next)

pub loop-ending-preserved : goal.loop-ending-preserved
loop-ending-preserved g c =
    let l = c.args.self.now in
    let l₁ = c.loop-ending.self in
    let l₂ = c.advance.new.self in
    let w = station_of l in
    let k = c.loop-ending.count in
    let next = subst (λ v. Next v (memory_of l₁) (next_answer c.advance.result) (memory_of l₂)) (sym (station_same l l₁ c.loop-ending.invariant.1)) c.advance.ensures.advanced in (
      omega (arith, c.in_default.ensures.not_spent),
      same_through l l₁ l₂ c.loop-ending.invariant.1 c.advance.ensures.station,
      goes_by w c.args.aim.target c.args.aim.budget (memory_of l) k (memory_of l₁) (memory_of l₂) c.loop-ending.invariant.2 c.in_default.ensures c.advance.result (sym c.is_err.ensures.value ∙ c.if-is_err.false) next,
    )
