use Rattle.std.proofs.Common.{◌≡◌, ◌≤◌, true, length, ap, sym, ◌∙◌, subst, rules, arith}
use Rattle.st_journal.specs.Changes.{fits, has_words}
use Rattle.st_journal.specs.OpenedJournal.{HasPrefix, Opened, Records, room_behind, room_for, under_way_in}
use Rattle.st_store.specs.Store.{LeavesOnly}
use Rattle.st_journal.proofs.Counters.{applied_fits}
use Rattle.st_journal.proofs.Records.{counts_on, fails_records, put_records, put_rests, torn_moments}
use Rattle.st_journal.proofs.journal.Journal.append.Goals as goal

pub append_at-requires-clause-fits : goal.append_at-requires-clause-fits
append_at-requires-clause-fits g c =
    let words : has_words c.args.change.now ≡ true = search rules in
    let a = c.requires.applies (ap (λ (j : Opened g.row.D.Denot). j.broken) (sym c.self.view_is) ∙ c.if-self.false) in
    let fit : fits c.args.change.now ≡ true = applied_fits a.1.state c.args.change.now a.1.next a.1.applied c.requires.ranges words in
    fit

pub overflow_add-self-in-Ok : goal.overflow_add-self-in-Ok
overflow_add-self-in-Ok g c =
    let words : has_words c.args.change.now ≡ true = search rules in
    let a = c.requires.applies (ap (λ (j : Opened g.row.D.Denot). j.broken) (sym c.self.view_is) ∙ c.if-self.false) in
    let fit : fits c.args.change.now ≡ true = applied_fits a.1.state c.args.change.now a.1.next a.1.applied c.requires.ranges words in
    omega (arith, counts_on g.D.Store.seen g.D.Store.may_leave c.self.inside.store c.append_at.new.store c.self.inside.gate c.self.inside.changes c.self.inside.broken c.args.change.now c.if-self.false c.self.invariant fit)

pub invariant_of-self : goal.invariant_of-self
invariant_of-self g c = λ whole.
    let words : has_words c.args.change.now ≡ true = search rules in
    let a = c.requires.applies (ap (λ (j : Opened g.row.D.Denot). j.broken) (sym c.self.view_is) ∙ c.if-self.false) in
    let fit : fits c.args.change.now ≡ true = applied_fits a.1.state c.args.change.now a.1.next a.1.applied c.requires.ranges words in
    put_rests g.D.Store.seen g.D.Store.may_leave c.self.inside.store c.append_at.new.store c.self.inside.gate c.self.inside.changes c.self.inside.broken c.args.change.now c.if-self.false c.self.invariant fit c.in-Ok.count c.in-Ok.ensures.ok

pub returns-in-Ok-clause-records : goal.returns-in-Ok-clause-records
returns-in-Ok-clause-records g c = λ acked under_way r.
    let words : has_words c.args.change.now ≡ true = search rules in
    let a = c.requires.applies (ap (λ (j : Opened g.row.D.Denot). j.broken) (sym c.self.view_is) ∙ c.if-self.false) in
    let fit : fits c.args.change.now ≡ true = applied_fits a.1.state c.args.change.now a.1.next a.1.applied c.requires.ranges words in
    let before = subst (λ (j : Opened g.row.D.Denot). Records g.D.Store.seen g.D.Store.may_leave j acked under_way) (sym c.self.view_is) r in
    put_records g.D.Store.seen g.D.Store.may_leave c.self.inside.store c.append_at.new.store c.self.inside.gate c.self.inside.changes c.self.inside.broken c.args.change.now c.if-self.false c.self.invariant fit c.in-Ok.count c.in-Ok.ensures.ok acked under_way before

pub returns-in-Ok-clause-any_moment : goal.returns-in-Ok-clause-any_moment
returns-in-Ok-clause-any_moment g c = λ acked under_way r.
    let words : has_words c.args.change.now ≡ true = search rules in
    let a = c.requires.applies (ap (λ (j : Opened g.row.D.Denot). j.broken) (sym c.self.view_is) ∙ c.if-self.false) in
    let fit : fits c.args.change.now ≡ true = applied_fits a.1.state c.args.change.now a.1.next a.1.applied c.requires.ranges words in
    let before = subst (λ (j : Opened g.row.D.Denot). Records g.D.Store.seen g.D.Store.may_leave j acked under_way) (sym c.self.view_is) r in
    subst (λ (j : Opened g.row.D.Denot). LeavesOnly g.D.Store.moment g.D.Store.left_since j.store c.append_at.new.store (HasPrefix acked (under_way_in c.args.change.now under_way))) c.self.view_is
    (torn_moments g.D.Store.seen g.D.Store.may_leave c.self.inside.store c.append_at.new.store c.self.inside.gate c.self.inside.changes c.self.inside.broken c.args.change.now c.if-self.false c.self.invariant fit g.D.Store.moment g.D.Store.left_since c.in-Ok.ensures.ok.room acked under_way before c.append_at.ensures.any_moment)

pub returns-in-Err-Store-clause-records : goal.returns-in-Err-Store-clause-records
returns-in-Err-Store-clause-records g c = λ acked under_way r.
    let words : has_words c.args.change.now ≡ true = search rules in
    let a = c.requires.applies (ap (λ (j : Opened g.row.D.Denot). j.broken) (sym c.self.view_is) ∙ c.if-self.false) in
    let fit : fits c.args.change.now ≡ true = applied_fits a.1.state c.args.change.now a.1.next a.1.applied c.requires.ranges words in
    let room : room_for c.args.change.now ≤ room_behind (length (g.D.Store.seen c.self.inside.store)) c.self.inside.gate = search rules in
    let before = subst (λ (j : Opened g.row.D.Denot). Records g.D.Store.seen g.D.Store.may_leave j acked under_way) (sym c.self.view_is) r in
    fails_records g.D.Store.seen g.D.Store.may_leave c.self.inside.store c.append_at.new.store c.self.inside.gate c.self.inside.changes c.self.inside.broken c.args.change.now c.if-self.false c.self.invariant fit g.D.Store.moment g.D.Store.left_since g.met.D.Store.stands g.met.D.Store.counts_now room c.append_at.ensures.any_moment acked under_way before

pub returns-in-Err-Store-clause-any_moment : goal.returns-in-Err-Store-clause-any_moment
returns-in-Err-Store-clause-any_moment g c = λ acked under_way r.
    let words : has_words c.args.change.now ≡ true = search rules in
    let a = c.requires.applies (ap (λ (j : Opened g.row.D.Denot). j.broken) (sym c.self.view_is) ∙ c.if-self.false) in
    let fit : fits c.args.change.now ≡ true = applied_fits a.1.state c.args.change.now a.1.next a.1.applied c.requires.ranges words in
    let room : room_for c.args.change.now ≤ room_behind (length (g.D.Store.seen c.self.inside.store)) c.self.inside.gate = search rules in
    let before = subst (λ (j : Opened g.row.D.Denot). Records g.D.Store.seen g.D.Store.may_leave j acked under_way) (sym c.self.view_is) r in
    subst (λ (j : Opened g.row.D.Denot). LeavesOnly g.D.Store.moment g.D.Store.left_since j.store c.append_at.new.store (HasPrefix acked (under_way_in c.args.change.now under_way))) c.self.view_is
    (torn_moments g.D.Store.seen g.D.Store.may_leave c.self.inside.store c.append_at.new.store c.self.inside.gate c.self.inside.changes c.self.inside.broken c.args.change.now c.if-self.false c.self.invariant fit g.D.Store.moment g.D.Store.left_since room acked under_way before c.append_at.ensures.any_moment)
