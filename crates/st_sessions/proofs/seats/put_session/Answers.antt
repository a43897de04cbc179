use Rattle.std.proofs.Common.{◌≡◌, List, OnOk, sym, subst, ◌∙◌}
use Rattle.st_rules.specs.declared.sessions.Session.{Session}
use Rattle.st_rules.specs.Sessions.{is_session_of}
use Rattle.st_lemmas.proofs.PutPlaces.{put_at, put_behind}
use Rattle.st_sessions.proofs.Seated.{place_in, seated_put}
use Rattle.st_sessions.proofs.seats.put_session.Goals as goal

pub seat_last-requires-clause-absent : goal.seat_last-requires-clause-absent
seat_last-requires-clause-absent c =
    sym (sym c.in-None.is ∙ (rw c.deref.ensures.value at c.seat_of.ensures) ∙ c.requires c.args.session.client)

pub returns-in-None-clause-ok : goal.returns-in-None-clause-ok
returns-in-None-clause-ok c =
    subst (λ (rows : List Session). OnOk c.seat_last.result (c.seat_last.new.rows.items ≡ rows))
    (sym (put_behind (is_session_of c.args.session.client) c.args.session c.args.rows.now.items
    (sym c.in-None.is ∙ (rw c.deref.ensures.value at c.seat_of.ensures) ∙ c.requires c.args.session.client)))
    c.seat_last.ensures.ok

pub replace-requires : goal.replace-requires
replace-requires c =
    place_in c.args.session.client c.args.rows.now.items c.in-Some.place
    (sym c.in-Some.is ∙ (rw c.deref.ensures.value at c.seat_of.ensures) ∙ c.requires c.args.session.client)

pub returns-in-Some-clause-ok : goal.returns-in-Some-clause-ok
returns-in-Some-clause-ok c =
    c.replace.ensures
    ∙ sym (put_at (is_session_of c.args.session.client) c.args.session c.args.rows.now.items c.in-Some.place
    (sym c.in-Some.is ∙ (rw c.deref.ensures.value at c.seat_of.ensures) ∙ c.requires c.args.session.client))

pub returns-in-Some-clause-seated : goal.returns-in-Some-clause-seated
returns-in-Some-clause-seated c =
    seated_put c.args.rows.now.items c.replace.new.rows.items c.args.seats.now.items c.in-Some.place c.args.session c.requires
    (sym c.in-Some.is ∙ (rw c.deref.ensures.value at c.seat_of.ensures) ∙ c.requires c.args.session.client) c.replace.ensures
