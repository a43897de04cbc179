-- In every run no operation is stuck.
use Rattle.st_lemmas.proofs.Words
use Words.{◌≡◌, ◌≢◌, ◌⊎◌, ℕ, ◌≤◌, true, not, ◌&&◌, ◌==◌, List, [], Option, Some, Ok, refl, sym, ap, ◌∙◌, subst, inl, inr, arith}
use Words.{eq-eqb, map, Ask, Body, ClientId, ClientInput, Event, FileId, GrantNo, Header, Message, NameOp, Operation, PageNo, Stamp, Why, Config}
use Words.asks
use Words.bodies
use Words.inputs
use Words.nodes
use Words.Client as cl
use Words.ClientReplies as cr
use Words.ClientState as cs
use Words.ClientState.{Association, ClientSession, Turn}
use Words.Events.{WorldTurn, world_step}
use Words.History.{Traced}
use Words.Lists.{Has}
use Words.Lookups.{some_is}
use Words.Numbers.{numbered_has}
use Words.Safety.{Step}
use Words.Server as sv
use Words.Tables.{and_both, and_true, has_map, has_map_in}
use Words.Truth.{clash, none_not_some}
use Words.World.{World, WorldClient, clock_of, fresh_site, fresh_world, numbered, site_of, with_numbered}
use Rattle.st_messages.specs.declared.message.Why.TheVariants as why
use Rattle.st_rules.specs.declared.client.Request.{Request}
use Rattle.st_rules.specs.Dating.{may_date, refuses_client}
use Rattle.st_rules.specs.Extents.{numbers}
use Rattle.st_trace.specs.Client.Messages as trace
use Rattle.st_protocol.specs.Assoc as net
use Rattle.st_laws_leases.specs.Dates.Dates.{message_in, messages}
use Rattle.st_laws_leases.proofs.Dates.Leaving.{set_cases}
use Rattle.st_laws_requests.specs.Cuts.Cuts.{AsksFor, AssociationOk, Counts, Early, Given, Keyed, Placed, SameBody, Waits, WaitsAt, view}
use Rattle.st_laws_requests.proofs.Replies.EachEvent.{ClientTook, SiteAfter}
use Rattle.st_laws_cuts.proofs.Events.{NextAsk, event_does}
use Rattle.st_laws_cuts.proofs.Law.{AllHold}
use Rattle.st_laws_names.specs.Keys.{HasEvent, ServedAt, behind_thefts, is_final, is_kept_why, now_at}
use Rattle.st_laws_names.proofs.Facts.{FactsHold}
use Rattle.st_laws_volume.proofs.FileReplies as replied
use Rattle.st_laws_volume.proofs.FileReplies.{Answers, answers}
use Rattle.st_laws_volume.proofs.StuckNames.{IsTold, Knows, Place, Stays, names_refused, step_stays}
use Rattle.st_laws_volume.proofs.ToldResults.{no_reassertion}

-- of each client
abbrev pub SitesStay : World → Type 0
SitesStay w = (c : ClientId) (site : WorldClient) → site_of w c ≡ Some site → Stays site.node.state.operations

kept_so : (w : Why) → not (refuses_client w) ≡ true → is_kept_why w ≡ true
kept_so why.NoFile k = refl
kept_so why.TooManyLocks k = refl
kept_so why.NoSpace k = refl
kept_so why.NotHolder k = refl
kept_so w k = cc

-- A server refuses a request for a cut only if its client doesn't hold the file, or if there is none.
abbrev CutRefused : Why → Type 0
CutRefused w = (w ≡ why.NotHolder) ⊎ (w ≡ why.NoFile)

cut_refused : (t : sv.ServerTurn) (h : Header) (ino : ℕ) (g : GrantNo) (p : PageNo) (w : Why) (a b : ℕ) (r : Option Body) →
    Answers t h (bodies.Cut ino g p) r → r ≡ Some (bodies.Nack w a b) → CutRefused w
cut_refused t h ino g p w a b _ replied.IsSilent q = cc q
cut_refused t h ino g p w a b _ (replied.IsDone r f) q = absurd (clash (ap cs.is_refusal (some_is q)) f)
cut_refused t h ino g p w a b _ (replied.IsNoFile i e f) q = inr (its q)
  where
    its : Some (bodies.Nack why.NoFile i 0) ≡ Some (bodies.Nack w a b) → w ≡ why.NoFile
    its q = cc q
cut_refused t h ino g p w a b _ (replied.HoldsNot i k mode e f u) q = inl (its q)
  where
    its : Some (bodies.Nack why.NotHolder i k.0) ≡ Some (bodies.Nack w a b) → w ≡ why.NotHolder
    its q = cc q
cut_refused t h ino g p w a b _ (replied.HasTooMany i mode e) q = absurd (none e)
  where
    none : bodies.Cut ino g p ≡ bodies.Acquire i mode → ⊥
    none e = cc e
cut_refused t h ino g p w a b _ (replied.HasNoSpace i k y n free wanted e f) q = absurd (none e)
  where
    none : bodies.Cut ino g p ≡ bodies.Allocate i k y n → ⊥
    none e = cc e
cut_refused t h ino g p w a b r (replied.IsOfName op _ e k) q = absurd (none e)
  where
    none : bodies.Cut ino g p ≡ bodies.Name op → ⊥
    none e = cc e

-- One event.
module _ (k : net.Config) (count : ℕ) (past : List Step) (t : Traced) (h : FactsHold k count past t) where
  abbrev w : World
  w = t.world

  abbrev all : AllHold k count past t
  all = h.changes_.names_.all

  module _ (c : ClientId) (site : WorldClient) (at : site_of w c ≡ Some site) (runs : site.node.running ≡ true) (now : Stamp) (m : Message)
      (among : Has m (messages w)) (to : m.header.to ≡ c.0) (u : Turn) (here : Has u.here site.node.state.associations) (o : Operation)
      (there : Has o site.node.state.operations) (asked : cs.is_asked u.here.server o ≡ true) (x : ClientSession)
      (q : Request) (r : trace.Replied now m.header m.body u x q) (y : Why) (a b : ℕ) (says : m.body ≡ bodies.Nack y a b) where
    abbrev A : Association
    A = u.here

    ok : AssociationOk past (messages w) c site.node.state.operations A
    ok = (all.base.cuts.clients c site at).all runs A here

    means : AsksFor o.ask q.body
    means =
        (subst (λ y. WaitsAt (Early past c) A.server A.life.0 x.epoch.0 y o) r.asked
        (subst (λ v. Waits (Early past c) A.server A.life.0 (view v) o) r.heard.session (ok.waits o there asked))).0

    first : 1 ≤ q.number
    first = (subst (Given x.requests.next) r.asked (subst (λ v. Counts (view v)) r.heard.session ok.numbers.counts).1).0

    same : (p : Message) → Has p (messages w) → Keyed c A.server m.header.life m.header.epoch m.header.number p → p.body ≡ q.body
    same p i z =
        subst (λ v. SameBody v p) r.asked
        ((subst (λ v. Placed A.life.0 (view v) p) r.heard.session (ok.numbers.placed p i z.between) (z.of_life ∙ r.heard.received.life)
        (let n = z.under in let l = r.number in let f = first in omega (arith, n, l, f))).same (z.of_epoch ∙ r.heard.epoch)) (z.under ∙ sym r.number)

    event : HasEvent past w c A.server m.header.life m.header.epoch m.header.number m.body
    event =
        subst (λ d. HasEvent past w d A.server m.header.life m.header.epoch m.header.number m.body) (ap (λ i. record { 0 = i }) to)
        (h.replies.replies m among A.server r.heard.received.from
        (subst (λ d. is_final d ≡ true) (sym says) (kept_so y (subst (λ d. may_date m.header.number d ≡ true) says r.dates))))

    -- the request was served, and refused so
    served : (body : Body) → q.body ≡ body →
        (z : Step) × ((v : ServedAt z c A.server m.header.life m.header.epoch m.header.number m.body)
        × ((sv.rule (behind_thefts z.before.world A.server v.serves.old.state) (now_at z.before.world A.server) v.sent.message.header body).reply
        ≡ Some (bodies.Nack y a b)))
    served body is = go event
      where
        go : HasEvent past w c A.server m.header.life m.header.epoch m.header.number m.body →
            (z : Step) × ((v : ServedAt z c A.server m.header.life m.header.epoch m.header.number m.body)
            × ((sv.rule (behind_thefts z.before.world A.server v.serves.old.state) (now_at z.before.world A.server) v.sent.message.header body).reply
            ≡ Some (bodies.Nack y a b)))
        go (inl (z, j, v)) = (
          z,
          (
            v,
            subst
                (λ d.
                (sv.rule (behind_thefts z.before.world A.server v.serves.old.state) (now_at z.before.world A.server) v.sent.message.header d).reply
                ≡ Some (bodies.Nack y a b))
                (same v.sent.message
                (all.base.cuts.grown z j v.sent.message
                (has_map_in message_in z.before.world.net.messages v.sent (numbered_has z.before.world.net.messages v.index v.sent v.is))) v.serves.keyed ∙ is)
                (v.serves.replied ∙ ap (λ d. Some d) says),
          ),
        )
        go (inr z) = absurd (no_reassertion o.ask z.by.body (subst (AsksFor o.ask) (sym (same z.by z.among z.keyed)) means) z.asks)

    own : cs.is_of A.server o ≡ true
    own = (and_true (cs.is_of A.server o) (cs.is_asked_at o.stage) asked).0

    told : IsTold u o x q y
    told = by o.ask q.body refl refl means
      where
        of_name : (op : NameOp) → q.body ≡ bodies.Name op → IsTold u o x q y
        of_name op is =
            let z = served (bodies.Name op) is in
            let l =
            names_refused (behind_thefts z.0.before.world A.server z.1.0.serves.old.state) (now_at z.0.before.world A.server) z.1.0.sent.message.header op y a b
            z.1.1 in
            inl (l.0, ap cs.asks_cut_or_remove is ∙ l.1)

        of_cut : (f : FileId) (p : PageNo) (ino : ℕ) (g : GrantNo) (r : PageNo) → o.ask ≡ asks.Cut f p → q.body ≡ bodies.Cut ino g r → f.ino ≡ ino →
            IsTold u o x q y
        of_cut f p ino g r ask is file =
            let z = served (bodies.Cut ino g r) is in
            let t = behind_thefts z.0.before.world A.server z.1.0.serves.old.state in
            let n = now_at z.0.before.world A.server in
            go
            (cut_refused t z.1.0.sent.message.header ino g r y a b (sv.rule t n z.1.0.sent.message.header (bodies.Cut ino g r)).reply
            (answers t n z.1.0.sent.message.header (bodies.Cut ino g r)) z.1.1)
          where
            works : cr.works_on u ino o ≡ true
            works =
                and_both (cs.is_of A.server o && cs.is_file ino (cs.file_of o.ask)) (not (cs.is_sync o.ask))
                (and_both (cs.is_of A.server o) (cs.is_file ino (cs.file_of o.ask)) own
                (ap (λ k. cs.is_file ino (cs.file_of k)) ask ∙ eq-eqb f.ino ino file)) (ap (λ k. not (cs.is_sync k)) ask)

            go : CutRefused y → IsTold u o x q y
            go (inl e) = inl (e, ap cs.asks_cut_or_remove is)
            go (inr e) = inr (e, (ino, ap (cs.file_asked x.cutting) is, works))

        by : (ask : Ask) (b : Body) → o.ask ≡ ask → q.body ≡ b → AsksFor ask b → IsTold u o x q y
        by (asks.Cut f p) (bodies.Cut ino g r) e is k = of_cut f p ino g r e is k.0
        by (asks.Name s n) (bodies.Name op) e is k = of_name op is
        by ask b e is k = absurd k

  none_stays : (os : List Operation) → os ≡ [] → Stays os
  none_stays os e o i = absurd (subst (Has o) e i)

  placed : SitesStay w → (v : World) (c : ClientId) (old new : WorldClient) → site_of w c ≡ Some old → v.clients ≡ with_numbered c.0 new w.clients →
      Stays new.node.state.operations → SitesStay v
  placed f v c old new at q l x site there = go (set_cases w.clients c.0 x.0 old new site at (ap (λ xs. numbered xs x.0) (sym q) ∙ there))
    where
      go : ((x.0 ≡ c.0) × (site ≡ new)) ⊎ ((x.0 ≢ c.0) × (site_of w x ≡ Some site)) → Stays site.node.state.operations
      go (inl z) = subst (λ (y : WorldClient). Stays y.node.state.operations) (sym z.1) l
      go (inr z) = f x site z.1

  pub event_stays : SitesStay w → (e : Event) (sc : WorldTurn) → world_step w e ≡ Ok sc → SitesStay sc.world
  event_stays f =
      event_does w (λ s n at. (all.base.cuts.servers s n at).id) (λ v. SitesStay v.world)
      (λ sc cs ms none. λ c site at. f c site (ap (λ xs. numbered xs c.0) (sym cs) ∙ at))
      (λ v cs c i site old same next run at sc l ans.
      placed f sc.world c old (SiteAfter v c i site) at (l.clients ∙ ap (with_numbered c.0 (SiteAfter v c i site)) cs)
      (stepped v c i site old same next run at))
      (λ c old new at z sc cs ms none. placed f sc.world c old new at cs (none_stays new.node.state.operations z.operations))
    where
      stepped : (v : World) (c : ClientId) (i : ClientInput) (site old : WorldClient) → site.node ≡ old.node → NextAsk w i old site → site.node.running ≡ true →
          site_of w c ≡ Some old → Stays (ClientTook v c i site).state.operations
      stepped v c i site old same next run at =
          step_stays site.node.state now i (subst (λ (n : cl.ClientNode). Knows n.state now i) (sym same) (record { tells = tells }))
          (subst (λ (n : cl.ClientNode). Stays n.state.operations) (sym same) (f c old at))
        where
          now : Stamp
          now = clock_of v (nodes.Client c)

          tells : (m : Message) → i ≡ inputs.Control m → m.header.to ≡ old.node.state.id.0 → (u : Turn) → Place old.node.state now i u.here → (o : Operation) →
              Has o old.node.state.operations → cs.is_asked u.here.server o ≡ true → (x : ClientSession) (q : Request) →
              trace.Replied now m.header m.body u x q → (y : Why) (a b : ℕ) → m.body ≡ bodies.Nack y a b → IsTold u o x q y
          tells m is to u (inl none) o there asked x q r y a b says = absurd (none_not_some x (sym none ∙ r.heard.session))
          tells m is to u (inr here) o there asked x q r y a b says =
              told c old at (ap (λ (n : cl.ClientNode). n.running) (sym same) ∙ run) now m (subst (λ j. NextAsk w j old site) is next)
              (to ∙ ap (λ (d : ClientId). d.0) (all.base.cuts.fates.lives.lives.sites c old at).id) u here o there asked x q r y a b says

pub stuck_begin : (k : Config) (clients servers disks blocks form : ℕ) → SitesStay (fresh_world k clients servers disks blocks form)
unfolding fresh_world cl.fresh_client
stuck_begin k clients servers disks blocks form c site at =
    let z = has_map (fresh_site k servers) (numbers 1 clients) site (numbered_has (map (fresh_site k servers) (numbers 1 clients)) c.0 site at) in
    subst (λ (y : WorldClient). Stays y.node.state.operations) (sym z.2) (λ o i. absurd i)
