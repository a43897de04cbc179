-- In every run each answer `nospace` goes to a write or a patch without a result: a server refused to map one page, since it had no free block.
use Rattle.st_lemmas.proofs.Words
use Words.{◌≡◌, ℕ, ◌+◌, arith, Bool, true, false, not, ◌&&◌, ◌==◌, List, [], ◌∷◌, ◌++◌, Option, Some, None, Ok, Err, refl, sym, ap, ◌∙◌, subst, if◌then◌else◌, Result}
use Words.{eqb-true, leb-false, nat_le, AllocateRefusal, AppAnswer, Ask, Body, ClientId, Event, FileId, GrantNo, Header, PageNo, ServerId}
use Words.answers
use Words.asks
use Words.bodies
use Words.wants
use Words.why
use Words.ClientState as cs
use Words.ClientState.{Association, is_refusal}
use Words.Events.{WorldTurn, world_step}
use Words.Extents as extents
use Words.Extents.{Extents}
use Words.History.{Traced, traced, traced_after}
use Words.Keys.{same_server}
use Words.Lookups.{some_is}
use Words.Safety.{Step, all_answered_once, all_followed, step}
use Words.Server as sv
use Words.Server.{ServerTurn, Stable}
use Words.Tables.{and_true, found_at}
use Words.Truth.{clash, client_is}
use Words.World.{World, fresh_world, numbered}
use Rattle.st_protocol.specs.Assoc as net
use Rattle.st_promises.specs.Safe.{EveryRunIsSafe}
use Rattle.st_trace.proofs.Server.Input.{thefts_begun}
use Rattle.st_laws_pages.proofs.Asks.World.{asks_of}
use Rattle.st_laws_refine.specs.Server.Pair.{terms_of}
use Rattle.st_laws_names.specs.Keys.{behind_thefts, now_at}
use Rattle.st_laws_names.proofs.Facts.{FactsHold}
use Rattle.st_laws_volume.specs.AnswerKinds.{IsOfUndone}
use Rattle.st_laws_volume.specs.Logs.{InEveryRun}
use Rattle.st_laws_volume.specs.NoSpaceAnswers.{IsNoSpace, IsRefusedBlock, ServersWereFull, WasFull}
use Rattle.st_laws_volume.specs.Options.{OnSome}
use Rattle.st_laws_volume.specs.Seen.{of_event}
use Rattle.st_laws_volume.specs.StepKinds.{AtEachStep}
use Rattle.st_laws_volume.specs.Witness.{Witness, led_by, steps_of}
use Rattle.st_laws_volume.proofs.AcquireRequests as acquiring
use Rattle.st_laws_volume.proofs.AnswerCauses.{IsOfPage, IsRefusal, Says}
use Rattle.st_laws_volume.proofs.AnswerFacts.{AllOf, FactsOf, Known, all_of, facts_begin, facts_on, known_in}
use Rattle.st_laws_volume.proofs.AnswerLines.{step_of}
use Rattle.st_laws_volume.proofs.Carried.{IsGiven, given_in}
use Rattle.st_laws_volume.proofs.EventAnswers.{Given, Stepping, event_answers}
use Rattle.st_laws_volume.proofs.FileReplies as replied
use Rattle.st_laws_volume.proofs.FileReplies.{Answers, answers}
use Rattle.st_laws_volume.proofs.NameReplies.{IsNamed, NameReplied, RemovesNot}
use Rattle.st_laws_volume.proofs.OpenAnswers.{OfAnswers, open_left}
use Rattle.st_laws_volume.proofs.Options.{on_all, on_more}
use Rattle.st_laws_volume.proofs.PageRequests.{AllOne, AsksOne, IsOfOne, SessionAsksOne, fresh_one, one_step}
use Rattle.st_laws_volume.proofs.RefusedRequests.{IsUnder, RefusedBy, refused_under}
use Rattle.st_laws_volume.proofs.SessionEpochs.{EpochsRight}
use Rattle.st_laws_volume.proofs.StepAnswers as stepping
use Rattle.st_laws_volume.proofs.StepAnswers.{Any, any_lasts, before, event_answered, start}
use Rattle.st_laws_volume.proofs.TreeTurns.{thefts_stable}
use Rattle.st_volume.specs.declared.step.VolumeStep.{VolumeStep}
use Rattle.st_volume.specs.declared.step.VolumeStep.TheVariants as kinds
use Rattle.st_volume.specs.Pages.{place_of}
use Rattle.st_volume.specs.Volume.{Pending, Volume, is_ask, run}

-- A server that can't map one page: it has no free block, and the page has none.
pub record Lacks (x : Extents) (f : FileId) (p : PageNo) (left wanted : ℕ) : Type 0 where
  pub none : left ≡ 0
  pub one : wanted ≡ 1
  pub full : extents.free x ≡ 0
  pub unmapped : extents.is_mapped x f p ≡ false

one_lacks : (x : Extents) (f : FileId) (p : PageNo) (left wanted : ℕ) → extents.allocate x f p 1 ≡ Err (wants.NoSpace left wanted) → Lacks x f p left wanted
unfolding extents.allocate extents.allocate_pages extents.numbers
one_lacks x f p left wanted = go (extents.is_mapped x f p) refl
  where
    by : extents.is_mapped x f p ≡ false → (b : Bool) → nat_le 1 (extents.free x) ≡ b → (y : Extents) →
        (if b then Ok y else Err (wants.NoSpace (extents.free x) 1)) ≡ Err (wants.NoSpace left wanted) → Lacks x f p left wanted
    by u true e y q = cc q
    by u false e y q =
        let z = leb-false 1 (extents.free x) e in
        let a = free_is q in
        record { none = omega (arith, z, a); one = sym (wanted_is q); full = omega (arith, z); unmapped = u }
      where
        free_is : ◌≡◌ {A = Result Extents AllocateRefusal} (Err (wants.NoSpace (extents.free x) 1)) (Err (wants.NoSpace left wanted)) → extents.free x ≡ left
        free_is q = cc

        wanted_is : ◌≡◌ {A = Result Extents AllocateRefusal} (Err (wants.NoSpace (extents.free x) 1)) (Err (wants.NoSpace left wanted)) → 1 ≡ wanted
        wanted_is q = cc

    go : (b : Bool) → extents.is_mapped x f p ≡ b → extents.allocate_pages x f (if not b then p ∷ [] else []) ≡ Err (wants.NoSpace left wanted) →
        Lacks x f p left wanted
    go false u q = by u (nat_le 1 (extents.free x)) refl (extents.place_pages f (p ∷ []) x) q
    go true u q = none (nat_le 0 (extents.free x)) refl q
      where
        none : (b : Bool) → nat_le 0 (extents.free x) ≡ b →
            (if b then Ok (extents.place_pages f [] x) else Err (wants.NoSpace (extents.free x) 0)) ≡ Err (wants.NoSpace left wanted) → Lacks x f p left wanted
        none true e q = cc q
        none false e q = let z = leb-false 0 (extents.free x) e in absurd (omega (arith, z))

-- Such a refusal of a request for one page.
pub record LacksBlock (t : ServerTurn) (b : Body) (left wanted : ℕ) : Type 0 where
  pub ino : ℕ
  pub g : GrantNo
  pub page : PageNo
  pub asks : b ≡ bodies.Allocate ino g page 1
  pub lacks : Lacks t.state.stable.extents (sv.file t ino) page left wanted

module _ (t : ServerTurn) (h : Header) (b : Body) (one : IsOfOne b) (left wanted : ℕ) where
  abbrev Says_so : Option Body → Type 0
  Says_so r = r ≡ Some (bodies.Nack why.NoSpace left wanted)

  lacks_block : (r : Option Body) → Answers t h b r → Says_so r → LacksBlock t b left wanted
  lacks_block _ replied.IsSilent q = cc q
  lacks_block _ (replied.IsDone r f) q = absurd (clash (ap is_refusal (some_is q)) f)
  lacks_block _ (replied.IsNoFile i e f) q = cc q
  lacks_block _ (replied.HoldsNot i g mode e f k) q = cc q
  lacks_block _ (replied.HasTooMany i mode e) q = cc q
  lacks_block _ (replied.HasNoSpace i g p count free w e f) q =
      record {
        ino = i;
        g = g;
        page = p;
        asks = subst (λ m. b ≡ bodies.Allocate i g p m) single e;
        lacks =
            one_lacks t.state.stable.extents (sv.file t i) p left wanted
            (ap (λ m. extents.allocate t.state.stable.extents (sv.file t i) p m) (sym single) ∙ (f ∙ same q));
      }
    where
      single : count ≡ 1
      single = subst IsOfOne e one

      same : Says_so (Some (bodies.Nack why.NoSpace free w)) →
          ◌≡◌ {A = Result Extents AllocateRefusal} (Err (wants.NoSpace free w)) (Err (wants.NoSpace left wanted))
      same q = cc
  lacks_block r (replied.IsOfName op _ e k) q = absurd (named r k q)
    where
      named : (r : Option Body) → NameReplied t h op r → Says_so r → ⊥
      named _ (IsNamed reply) q = cc q
      named _ (RemovesNot dir name g i is l f k) q = cc q

-- A write or a patch of a page is of this place.
its_place : (s : ServerId) (ino : ℕ) (p : PageNo) (ask : Ask) → cs.changes_page s ino p ask ≡ true →
    place_of ask ≡ Some (record { server = s; ino = ino }, p)
its_place s ino p ask e = by ask e
  where
    its : (f : FileId) (q : PageNo) → (same_server f.server s && ((f.ino == ino) && (q.0 == p.0))) ≡ true →
        ◌≡◌ {A = Option (FileId × PageNo)} (Some (f, q)) (Some (record { server = s; ino = ino }, p))
    its f q e =
        let z = and_true (same_server f.server s) ((f.ino == ino) && (q.0 == p.0)) e in
        let y = and_true (f.ino == ino) (q.0 == p.0) z.1 in
        ap (λ n. Some (record { server = record { 0 = n }; ino = f.ino }, q)) (eqb-true f.server.0 s.0 z.0)
        ∙ (ap (λ n. Some (record { server = s; ino = n }, q)) (eqb-true f.ino ino y.0)
        ∙ ap (λ n. Some (record { server = s; ino = ino }, record { 0 = n })) (eqb-true q.0 p.0 y.1))

    by : (ask : Ask) → cs.changes_page s ino p ask ≡ true → place_of ask ≡ Some (record { server = s; ino = ino }, p)
    by (asks.Write f q bytes) e = its f q e
    by (asks.Patch f q at bytes) e = its f q e
    by (asks.Read f q) e = cc e
    by (asks.Sync f) e = cc e
    by (asks.Cut f q) e = cc e
    by (asks.Name r ask) e = cc e

-- What holds of an event.
module _ (k : net.Config) (count : ℕ) (past : List Step) (t : Traced) (e : Event) (sc : WorldTurn) (happened : world_step t.world e ≡ Ok sc)
    (facts : FactsHold k count past t) (n : FactsHold k count (past ++ step t e sc ∷ []) (traced_after e t sc)) (right : EpochsRight t.world) (it : Witness)
    (single : AllOne t.world) (v : Volume) where
  abbrev w : World
  w = t.world

  abbrev Goal : VolumeStep → Volume → Type 0
  Goal = IsNoSpace past

  pub silent : OfAnswers Goal
  silent (kinds.Answered c op answer) u q = cc
  silent i u q = tt

  abbrev pub IsHere : Stepping w e sc → Volume → Given → Pending → Type 0
  IsHere = stepping.IsGiven k count past t e sc happened facts n right it v Any any_lasts Goal silent

  abbrev asks_then : Stepping w e sc → List (ℕ × Ask)
  asks_then = start k count past t e sc happened facts n right it v Any any_lasts Goal silent

  abbrev had : Stepping w e sc → List Association
  had = before k count past t e sc happened facts n right it v Any any_lasts Goal silent

  module _ (r : Stepping w e sc) (u : Volume) (g : Given) (a : Pending) (h : IsHere r u g a) (undone : a.result ≡ None) (left wanted : ℕ)
      (f : IsRefusal w r.client (asks_then r) r.input (had r) g.op why.NoSpace left wanted IsOfPage) where
    abbrev pub s : ServerId
    s = f.association.server

    abbrev pub under : (z : RefusedBy past r.client s f.request.body (bodies.Nack why.NoSpace left wanted))
        × IsUnder k count past t facts r.client r.site r.at r.runs e r.input r.takes (asks_then r) g.op why.NoSpace left wanted refl IsOfPage f z
    under =
        refused_under k count past t facts r.client r.site r.at r.runs e r.input r.takes (asks_then r) g.op why.NoSpace left wanted refl IsOfPage f

    abbrev pub z : RefusedBy past r.client s f.request.body (bodies.Nack why.NoSpace left wanted)
    z = under.0

    single_body : IsOfOne z.served.sent.message.body
    single_body =
        subst IsOfOne (sym z.asks)
        (subst AsksOne f.outstanding (subst SessionAsksOne f.has (single r.client r.site r.at f.association f.among)))

    abbrev pub turn : ServerTurn
    turn = behind_thefts z.y.before.world s z.served.serves.old.state

    pub lacking : LacksBlock turn z.served.sent.message.body left wanted
    lacking =
        lacks_block turn z.served.sent.message.header z.served.sent.message.body single_body left wanted
        (sv.rule turn (now_at z.y.before.world s) z.served.sent.message.header z.served.sent.message.body).reply
        (answers turn (now_at z.y.before.world s) z.served.sent.message.header z.served.sent.message.body) z.served.serves.replied

    ask_is : a.ask ≡ f.ask
    ask_is = some_is (sym h.asked ∙ (ap (λ d. numbered (asks_of (past ++ step t e sc ∷ []) d) g.op) h.fits.0 ∙ h.all r.client (g.op, f.ask) f.known))

    pub mine : a.client ≡ r.client
    mine =
        client_is a.client g.client (and_true (a.client.0 == g.client.0) (a.op == g.op) (found_at (is_ask g.client g.op) u.pending a h.found).0).0
        ∙ h.fits.0

    pub body_is : f.request.body ≡ bodies.Allocate lacking.ino lacking.g lacking.page 1
    body_is = sym z.asks ∙ lacking.asks

    ino_is : f.concerns.0 ≡ lacking.ino
    ino_is = some_is (sym f.concerns.2 ∙ ap (cs.file_asked f.session.cutting) body_is)

    page_is : f.concerns.1 ≡ lacking.page
    page_is = some_is (sym f.concerns.3 ∙ ap cs.page_asked body_is)

    pub place : place_of a.ask ≡ Some (record { server = s; ino = lacking.ino }, lacking.page)
    place =
        ap place_of ask_is
        ∙ its_place s lacking.ino lacking.page f.ask
        (subst (λ p. cs.changes_page s lacking.ino p f.ask ≡ true) page_is
        (subst (λ i. cs.changes_page s i f.concerns.1 f.ask ≡ true) ino_is f.concerns.4))

    pub was_full : extents.free z.served.serves.old.state.stable.extents ≡ 0
    was_full =
        ap (λ (y : Stable). extents.free y.extents) (sym (thefts_stable z.served.serves.old.state (now_at z.y.before.world s))) ∙ lacking.lacks.full

    -- the page isn't mapped
    its_server : z.served.serves.old.state.id ≡ s
    its_server = acquiring.same_server z.served.serves.old.state.id s (sym z.served.serves.served.to ∙ z.served.serves.keyed.between.1)

    pub was_unmapped : extents.is_mapped z.served.serves.old.state.stable.extents (record { server = s; ino = lacking.ino }) lacking.page ≡ false
    was_unmapped =
        let b = thefts_begun z.served.serves.old.state (now_at z.y.before.world s) in
        ap (λ (y : Stable). extents.is_mapped y.extents (record { server = s; ino = lacking.ino }) lacking.page) (sym b.stable)
        ∙ (ap (λ (r : ServerId). extents.is_mapped turn.state.stable.extents (record { server = r; ino = lacking.ino }) lacking.page)
        (sym (b.id ∙ its_server))
        ∙ lacking.lacks.unmapped)

    refused : IsRefusedBlock past a left wanted
    refused =
        record {
          undone = undone;
          none = lacking.lacks.none;
          one = lacking.lacks.one;
          file = record { server = s; ino = lacking.ino };
          page = lacking.page;
          place = place;
          full =
              subst (λ (d : ClientId). WasFull past d (record { server = s; ino = lacking.ino }) lacking.page left wanted) (sym mine)
              (record {
                refused = z.y;
                among = z.among;
                life_ = z.life_;
                epoch_ = z.epoch_;
                number_ = z.number_;
                g = lacking.g;
                served = z.served;
                asks = lacking.asks;
                full = was_full;
              });
        }

  one : (r : Stepping w e sc) (u : Volume) (g : Given) (a : Pending) → IsHere r u g a → Goal (step_of g) u
  one r u g a h = by g.answer h.undone h.fits.1
    where
      by : (answer : AppAnswer) → IsOfUndone (kinds.Answered g.client g.op answer) u →
          Says w r.client (asks_then r) r.input (had r) g.op answer → Goal (kinds.Answered g.client g.op answer) u
      by (answers.NoSpace left wanted) undone says =
          λ b q. subst (λ c. IsRefusedBlock past c left wanted) (some_is (sym h.found ∙ q)) (refused r u g a h (undone refl a h.found) left wanted says)
      by answer undone says = tt

-- In every run.
FullToo : List Step → Step → Witness → Type 0
FullToo past x it = OnSome (λ v. AtEachStep (IsNoSpace past) (steps_of it v x) v) it.volume

record FullHold (k : net.Config) (count : ℕ) (past : List Step) (t : Traced) (it : Witness) : Type 0 where
  facts : FactsOf k count past t it
  single : AllOne t.world

full_on : (k : net.Config) (count : ℕ) → IsGiven (Known count) (FullHold k count) FullToo
unfolding FullToo
full_on k count past t e sc it f g h = (
  on_more (AllOf past t) (λ v. AtEachStep (IsNoSpace past) (steps_of it v (step t e sc)) v)
      (λ v m. event_answered k count past t e sc f h.facts.unserved.facts after.unserved.facts h.facts.knows.right it v Any any_lasts (IsNoSpace past)
      (silent k count past t e sc f h.facts.unserved.facts after.unserved.facts h.facts.knows.right it h.single v)
      (one k count past t e sc f h.facts.unserved.facts after.unserved.facts h.facts.knows.right it h.single v) m.log.lines m.agree m.asked
      (open_left past t e sc it f h.facts.asks) (and_true (all_answered_once past (step t e sc) [] sc.seen) (all_followed sc.seen) g.0.1.0).1 m.fine
      (on_all Any (λ z. tt) (run (of_event t.world e) v)) (event_answers t.world e sc f)) it.volume (all_of k count past t it h.facts),
  record {
    facts = after;
    single = one_step t.world e sc f (λ c site at a i. (h.facts.asks.fates.lives.lives.sites c site at).fit a i) h.single;
  },
)
  where
    after : FactsOf k count (past ++ step t e sc ∷ []) (traced_after e t sc) (led_by it (step t e sc))
    after = facts_on k count past t e sc it f g h.facts

pub servers_were_full : EveryRunIsSafe → InEveryRun ServersWereFull
unfolding FullToo
servers_were_full safe k clients servers disks blocks form es head events =
    let count : ℕ = clients + servers in
    given_in (Known count) (FullHold (terms_of k) count) FullToo (full_on (terms_of k) count) es (traced (fresh_world k clients servers disks blocks form))
    (record { facts = facts_begin k clients servers disks blocks form head; single = fresh_one k clients servers disks blocks form })
    (known_in k clients servers disks blocks form es head events (safe k clients servers disks blocks form es head events))
