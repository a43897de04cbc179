use Rattle.std.proofs.Common.{ℕ, List, inl, inr, subst}
use Rattle.st_store.specs.Store.{Torn}
use Rattle.st_journal.specs.Appends.{IsTornAppend}
use Rattle.st_journal.proofs.Moments.{goes_through, weaker}
use Rattle.st_journal.proofs.record.put_record.Goals as goal

pub returns-in_err-write_synced-clause-any_moment : goal.returns-in_err-write_synced-clause-any_moment
returns-in_err-write_synced-clause-any_moment g c =
    weaker g.D.Store.moment g.D.Store.left_since c.args.store.now c.write_synced.new.store _ (IsTornAppend (g.D.Store.seen c.args.store.now) c.args.gate c.args.bytes.now) c.write_synced.ensures.any_moment (λ f torn. inl torn)

pub returns-clause-any_moment : goal.returns-clause-any_moment
returns-clause-any_moment g c =
    goes_through g.D.Store.moment g.D.Store.left_since c.args.store.now c.write_synced.new.store c.write_synced-2.new.store
    (IsTornAppend (g.D.Store.seen c.args.store.now) c.args.gate c.args.bytes.now) (Torn c.args.gate 1 (g.D.Store.seen c.write_synced.new.store))
    (weaker g.D.Store.moment g.D.Store.left_since c.args.store.now c.write_synced.new.store _ (IsTornAppend (g.D.Store.seen c.args.store.now) c.args.gate c.args.bytes.now) c.write_synced.ensures.any_moment (λ f torn. inl torn))
    c.write_synced-2.ensures.any_moment
    (λ f torn. inr (subst (λ (b : List ℕ). Torn c.args.gate 1 b f) c.in_ok-write_synced.ensures.seen torn))
