-- In every run an outstanding request for blocks asks for one page.
use Rattle.st_lemmas.proofs.Words
use Words.{◌≡◌, ℕ, Bool, [], Option, Some, None, Ok, refl, sym, subst, Ask, Body, ClientId, Config, Event}
use Words.{Request, ServerId, Stamp}
use Words.bodies
use Words.ClientPages.{empty_store}
use Words.ClientPasses as cp
use Words.ClientState as cs
use Words.ClientState.{Association, ClientSession, Turn}
use Words.Events.{WorldTurn, world_step}
use Words.Lists.{Has}
use Words.World.{World, WorldClient, fresh_world, site_of}
use Rattle.st_rules.specs.ClientPasses.{Wanted}
use Rattle.st_trace.specs.Client.Operations.{Operated}
use Rattle.st_trace.specs.Client.Passes.{Reduced, WritesOut, places_of}
use Rattle.st_trace.specs.Client.Requests as asking
use Rattle.st_trace.specs.Client.Requests.{Greets, Requests, Wants}
use Rattle.st_trace.proofs.Client.Walk.{each_lasts, passes}
use Rattle.st_laws_steps.specs.Client.Losses.{Fit}
use Rattle.st_laws_steps.proofs.Client.Sessions as sessions
use Rattle.st_laws_pages.proofs.Lives.Associated as associated
use Rattle.st_laws_volume.proofs.KeptRequests.{AsksSo, SessionAsks, after_greeting, after_pass, after_reduction, after_write, received}

abbrev pub IsOfOne : Body → Type 0
IsOfOne (bodies.Allocate ino g p count) = count ≡ 1
IsOfOne b = Unit {0}

abbrev pub AsksOne : Option Request → Type 0
AsksOne = AsksSo IsOfOne

abbrev pub SessionAsksOne : Option ClientSession → Type 0
SessionAsksOne = SessionAsks IsOfOne

abbrev pub One : Association → Type 0
One a = SessionAsksOne a.session

abbrev Q : ServerId → ℕ → Option ClientSession → Type 0
Q server life o = SessionAsksOne o

of_wanted : (t : Turn) (s : ClientSession) (now : Stamp) (a : Ask) (w : Wanted) → Wants t s now a w → IsOfOne w.body
of_wanted t s now a _ (asking.ForLock ino e q c d) = tt
of_wanted t s now a _ (asking.ForPlace f p l e q c d) = tt
of_wanted t s now a _ (asking.ToWrite f p bytes l e q c d) = refl
of_wanted t s now a _ (asking.ToPatch f p at bytes l e q c d) = refl
of_wanted t s now a _ (asking.ToCut f p l e q c d) = tt
of_wanted t s now a _ (asking.ToRemove server n ino l e f q c d) = tt
of_wanted t s now a _ (asking.ToName server n e f) = tt

after_request : (now : Stamp) (tick : Bool) (t u : Turn) → Requests now tick t u → One t.here → One u.here
unfolding cs.send cs.asking
after_request now tick t _ asking.AsksNothing h = h
after_request now tick t _ (asking.AsksAgain s q e c n o) h = subst AsksOne n (subst SessionAsksOne e h)
after_request now tick t _ (asking.Reasserts s m d) h = tt
after_request now tick t _ (asking.Releases s r rs m d e) h = tt
after_request now tick t _ (asking.AsksFor s xs o ys x f e first) h = of_wanted t s now o.ask x first.wants
after_request now tick t _ (asking.KeepsAlive s f e) h = tt

passed : (now : Stamp) (tick : Bool) (t : Turn) → One t.here → One (cp.passes now tick t).here
passed now tick t h =
    let r = passes now tick t in
    after_request now tick r.greeted (cp.passes now tick t) r.requests
    (after_greeting IsOfOne now tick r.written r.greeted r.greeting
    (each_lasts (WritesOut now tick) (λ xs v. One v.here) (λ x xs v y o p. after_write IsOfOne now tick x v y o p)
    (places_of r.reduced.here.session r.reduced.here.store.pages) r.reduced r.written r.writes
    (each_lasts Reduced (λ xs v. One v.here) (λ x xs v y o p. after_reduction IsOfOne x v y o p) (cp.files_demanded r.operated.here.session) r.operated r.reduced
    r.reductions
    (each_lasts (Operated now t.operations) (λ os v. One v.here) (λ o os v x y z. after_pass IsOfOne now t.operations o v x y z) t.operations
    (cs.with_operations [] t) r.operated r.operations h))))

-- At each event.
no_session : (a : Association) → a.session ≡ None → a.store ≡ empty_store → One a
no_session a e f = subst SessionAsksOne (sym e) tt

abbrev pub AllOne : World → Type 0
AllOne w = (c : ClientId) (site : WorldClient) → site_of w c ≡ Some site → (a : Association) → Has a site.node.state.associations → One a

pub one_step : (w : World) (e : Event) (sc : WorldTurn) → world_step w e ≡ Ok sc →
    ((c : ClientId) (site : WorldClient) → site_of w c ≡ Some site → (a : Association) → Has a site.node.state.associations → Fit a) → AllOne w →
    AllOne sc.world
one_step =
    associated.event_keeps One no_session (sessions.sessions_kept_by_take Q) (λ now h b t fit o. received IsOfOne now h b t o) (sessions.sessions_kept_by_finish Q)
    (sessions.sessions_kept_by_lose Q (λ server life. tt)) passed

pub fresh_one : (k : Config) (clients servers disks blocks form : ℕ) → AllOne (fresh_world k clients servers disks blocks form)
fresh_one =
    associated.fresh_all One no_session (sessions.sessions_kept_by_take Q) (λ now h b t fit o. received IsOfOne now h b t o) (sessions.sessions_kept_by_finish Q)
    (sessions.sessions_kept_by_lose Q (λ server life. tt)) passed
