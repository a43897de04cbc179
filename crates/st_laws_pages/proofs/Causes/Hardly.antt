-- A sync is answered hard only if its file is, in the log at that answer: through a whole step of a client.
use Rattle.st_lemmas.proofs.Words
use Words.{◌≡◌, ℕ, Bool, true, false, not, ◌&&◌, ◌||◌, ◌==◌, List, [], ◌∷◌, ◌++◌, Option, Some, refl, sym, ap, ◌∙◌, subst, inl, inr, length, map}
use Words.{list_all, eqb-true, ClientId, FileId, Life, PageNo, ServerId, Stamp, AppAnswer, Ask, Output, Operation, Fate, LogEntry, LogOwner, DirtyPage}
use Words.answers
use Words.asks
use Words.outputs
use Words.fates
use Words.ClientPages as pages
use Words.ClientPasses as cp
use Words.ClientState.{Association, ClientState, ClientTurn, Turn, at_each, at_these, enter, leave, with_associations}
use Words.Events.{WorldTurn, client_says, client_says_all, is_hard_fate}
use Words.FlatLog as log
use Words.Keys.{same_client, same_file, same_server}
use Words.Safety as safety
use Words.Safety.{Step}
use Words.World.{WorldClient, life_with, site_of}
use Words.Lists.{Has}
use Words.Tables.{and_true, found_at}
use Rattle.st_laws_steps.specs.Client.Client as client
use Rattle.st_laws_steps.specs.Client.Client.{Change, Changes, Unhard}
use Rattle.st_laws_pages.specs.Fates.Fates.{GoneAll, PendingAll}
use Rattle.st_laws_pages.specs.Flush.Flush.{DirtyHere}
use Rattle.st_laws_steps.specs.Client.Losses.{Fit}
use Rattle.st_laws_pages.proofs.Flush.Adding.{After}
use Rattle.st_laws_steps.proofs.Client.Asking.{changes_by_passes, passes_keep_or_ask}
use Rattle.st_laws_steps.proofs.Client.Changes.{one}
use Rattle.st_laws_steps.proofs.Client.Only.{Only, Goes, all}
use Rattle.st_laws_steps.proofs.Client.Only as only
use Rattle.st_laws_steps.proofs.Client.Passing.{AnswersRight, IsHardSync, IsPassing, KeepsOrAsks, SaysRight}
use Rattle.st_laws_pages.proofs.Fates.GoneLaw.{one_gone}
use Rattle.st_laws_pages.proofs.Flush.Keeping.{OfOthers}
use Rattle.st_laws_steps.proofs.Client.Nexts.{Next, change_next, changes_next}
use Rattle.st_laws_pages.proofs.Asks.Client.{key}
use Rattle.st_laws_pages.proofs.Asks.Places.{Knows}
use Rattle.st_laws_pages.specs.Causes.Invariants.{CommandsStand}
use Rattle.st_laws_pages.proofs.Causes.Keeping.{All, In, RightLife, all_left, changes_around, others_next, right_next, these_grow}
use Rattle.st_laws_pages.proofs.Causes.Placed.{EachOut, Placed, Since, passes_place, since_one}
use Rattle.st_laws_pages.proofs.Causes.Saying.{placed_grown}
use Rattle.st_laws_pages.proofs.Lives.Among.{has_mid, has_others, others_apart}

-- what was asked was a sync, and all of its file is hard in this log
pub record HardSaid (asked : ℕ → Option Ask) (c : ClientId) (lives : ServerId → Life) (es : List LogEntry) (op : ℕ) : Type 0 where
  pub file : FileId
  pub is : asked op ≡ Some (asks.Sync file)
  pub all : list_all (safety.is_hard_of c (lives file.server) file) es ≡ true

-- an answer that is hard is right by the log at it
abbrev pub HardOne : (ℕ → Option Ask) → ClientId → (ServerId → Life) → List LogEntry → Output → Type 0
HardOne asked c lives es (outputs.Answer op answers.Hard) = HardSaid asked c lives es op
HardOne asked c lives es o = Unit {0}

-- the same of all outputs, in the world after those before it
abbrev pub Hards : (ℕ → Option Ask) → ClientId → (ServerId → Life) → ClientState → WorldTurn → List Output → Type 0
Hards asked c lives before sc [] = Unit {0}
Hards asked c lives before sc (o ∷ os) = record { one : HardOne asked c lives sc.world.log o; rest : Hards asked c lives before (client_says sc c before o) os }

hards_both : (asked : ℕ → Option Ask) (c : ClientId) (lives : ServerId → Life) (before : ClientState) (os ps : List Output) (sc : WorldTurn) → Hards asked c lives before sc os → Hards asked c lives before (After c before sc os) ps → Hards asked c lives before sc (os ++ ps)
unfolding client_says_all
hards_both asked c lives before [] ps sc a b = b
hards_both asked c lives before (o ∷ os) ps sc a b = record { one = a.one; rest = hards_both asked c lives before os ps (client_says sc c before o) a.rest b }

unhard_one : (asked : ℕ → Option Ask) (c : ClientId) (lives : ServerId → Life) (es : List LogEntry) (o : Output) → Unhard o → HardOne asked c lives es o
unhard_one asked c lives es (outputs.Answer op answers.Hard) u = absurd u
unhard_one asked c lives es (outputs.Answer op a) u = tt
unhard_one asked c lives es (outputs.Send m) u = tt
unhard_one asked c lives es (outputs.Submit n at what) u = tt
unhard_one asked c lives es (outputs.Note n) u = tt

unhard_all : (asked : ℕ → Option Ask) (c : ClientId) (lives : ServerId → Life) (before : ClientState) (os : List Output) (sc : WorldTurn) → EachOut Unhard os → Hards asked c lives before sc os
unhard_all asked c lives before [] sc u = tt
unhard_all asked c lives before (o ∷ os) sc u = record { one = unhard_one asked c lives sc.world.log o u.one; rest = unhard_all asked c lives before os (client_says sc c before o) u.rest }

pub quiet_hards : (asked : ℕ → Option Ask) (c : ClientId) (lives : ServerId → Life) (before : ClientState) (os ps : List Output) (sc : WorldTurn) → Hards asked c lives before sc os → Since Unhard os ps → Hards asked c lives before sc ps
quiet_hards asked c lives before os ps sc h u = subst (Hards asked c lives before sc) (sym u.out) (hards_both asked c lives before os u.more sc h (unhard_all asked c lives before u.more (After c before sc os) u.each))

-- What is gone belongs to no present life; what a client says makes nothing gone.
abbrev pub Ungone : ClientId → (ServerId → Life) → LogOwner → Type 0
Ungone c lives o = o.client.0 ≡ c.0 → (lives o.file.server).0 ≡ o.life.0 → ⊥

gone_says : (P : LogOwner → Type 0) (c : ClientId) (before : ClientState) (os : List Output) (sc : WorldTurn) → GoneAll P sc.world.log → GoneAll P (After c before sc os).world.log
unfolding client_says_all
gone_says P c before [] sc h = h
gone_says P c before (o ∷ os) sc h = gone_says P c before os (client_says sc c before o) (one_gone P c before o sc h)

has_key : (os : List Operation) (o : Operation) → Has o os → Has (key o) (map key os)
has_key (x ∷ os) o (inl e) = inl (ap key e)
has_key (x ∷ os) o (inr i) = inr (has_key os o i)
has_key [] o i = absurd i

-- If a file is hard at its client, all of its entries are.
has_dirty_page : (ps : pages.Pages) (ino : ℕ) (p : PageNo) (d : DirtyPage) → pages.dirty_of ps ino p ≡ Some d → pages.has_dirty ps ino ≡ true
has_dirty_page ps ino p d e =
    let z = found_at (pages.is_dirty_of ino p) ps.dirty d e in
    Rattle.st_lemmas.proofs.Tables.some_passes (pages.is_dirty_on ino) ps.dirty d z.1 (and_true (d.ino == ino) _ z.0).0

entry_hard : (c : ClientId) (lives : ServerId → Life) (a : Association) (f : FileId) (e : LogEntry) → f.server ≡ a.server → lives a.server ≡ a.life → pages.is_hard a.store f.ino ≡ true → (log.is_pending e.fate ≡ true → DirtyHere c a e.of) → (log.counts e.fate ≡ false → Ungone c lives e.of) →
    safety.is_hard_of c (lives f.server) f e ≡ true
entry_hard c lives a f e sv lf hard pending gone = go (safety.is_of_file c (lives f.server) f e.of) refl e.fate refl
  where
    no : ◌≡◌ {A = Bool} false true → ⊥
    no z = cc

    -- of this file and life
    parts : safety.is_of_file c (lives f.server) f e.of ≡ true → (e.of.client.0 ≡ c.0) × (e.of.file.server.0 ≡ f.server.0) × (e.of.life.0 ≡ (lives f.server).0) × (e.of.file.ino ≡ f.ino)
    parts q =
        let x = and_true (log.is_of_life c f.server (lives f.server) e.of) (same_file e.of.file f) q in
        let y = and_true (same_client e.of.client c) (same_server e.of.file.server f.server && (e.of.life.0 == (lives f.server).0)) x.0 in
        let z = and_true (same_server e.of.file.server f.server) (e.of.life.0 == (lives f.server).0) y.1 in
        let u = and_true (same_server e.of.file.server f.server) (e.of.file.ino == f.ino) x.1 in
        (eqb-true e.of.client.0 c.0 y.0, eqb-true e.of.file.server.0 f.server.0 z.0, eqb-true e.of.life.0 (lives f.server).0 z.1, eqb-true e.of.file.ino f.ino u.1)

    dirty : (e.of.client.0 ≡ c.0) × (e.of.file.server.0 ≡ f.server.0) × (e.of.life.0 ≡ (lives f.server).0) × (e.of.file.ino ≡ f.ino) → DirtyHere c a e.of → ⊥
    dirty (cl_, s_, l_, i_) h =
        let sv2 : e.of.file.server ≡ a.server = ap (λ n. record { 0 = n }) s_ ∙ sv in
        let life : e.of.life ≡ a.life = ap (λ n. record { 0 = n }) l_ ∙ ap lives sv ∙ lf in
        let z = h (ap (λ n. record { 0 = n }) cl_) sv2 life in
        no (sym (ap (λ b. not b && not (pages.has_write_on a.store.commands f.ino)) (subst (λ i. pages.has_dirty a.store.pages i ≡ true) i_ (has_dirty_page a.store.pages e.of.file.ino e.of.page z.0 z.1))) ∙ hard)

    go : (b : Bool) → safety.is_of_file c (lives f.server) f e.of ≡ b → (x : Fate) → e.fate ≡ x → (not b || is_hard_fate x) ≡ true
    go false q x y = refl
    go true q fates.Hard y = refl
    go true q fates.Pending y = absurd (dirty (parts q) (pending (ap log.is_pending y)))
    go true q (fates.Gone d) y =
        let z = parts q in
        absurd (gone (ap log.counts y) z.0 (ap (λ (s : ServerId). (lives s).0) (ap (λ n. record { 0 = n }) z.1) ∙ sym z.2))

file_hard : (c : ClientId) (lives : ServerId → Life) (a : Association) (f : FileId) (es : List LogEntry) → f.server ≡ a.server → lives a.server ≡ a.life → pages.is_hard a.store f.ino ≡ true → PendingAll (DirtyHere c a) es → GoneAll (Ungone c lives) es →
    list_all (safety.is_hard_of c (lives f.server) f) es ≡ true
file_hard c lives a f [] sv lf h p g = refl
file_hard c lives a f (e ∷ es) sv lf h p g = Rattle.st_lemmas.proofs.Tables.and_both _ _ (entry_hard c lives a f e sv lf h p.one g.one) (file_hard c lives a f es sv lf h p.rest g.rest)

module _ (past : List Step) (size : ℕ) (c : ClientId) (before : ClientState) (sc : WorldTurn) (site : WorldClient) (there : site_of sc.world c ≡ Some site) (count : length sc.world.servers ≡ size) (holds : CommandsStand sc.world.log sc.world.commands sc.world.disks.commands) (now : Stamp) (asked : ℕ → Option Ask)
    (gone : GoneAll (Ungone c (life_with site.node.state)) sc.world.log) where
  abbrev pub lives : ServerId → Life
  lives s = life_with site.node.state s

  abbrev pub I : Turn → List Association → Type 0
  I t others = In past size c before sc site there count holds now t others

  abbrev pub Alive : Association → Type 0
  Alive a = RightLife past size c before sc site there count holds now a

  abbrev pub Said : List Output → Type 0
  Said os = Hards asked c lives before sc os

  -- operations are as they were asked
  abbrev pub AskedAll : List Operation → Type 0
  AskedAll os = (k : ℕ × Ask) → Has k (map key os) → asked k.0 ≡ Some k.1

  moves : (t u : Turn) → Changes now t u → (others : List Association) → OfOthers t.here.server others → Alive t.here → Placed size u.out → I t others → I u others
  moves t u ch others n live p r = changes_around past size c before sc site there count holds now t u ch others n live p r

  grown : (t u : Turn) → Changes now t u → Placed size u.out → Placed size t.out
  grown t u ch p = let y = changes_next now t u ch in placed_grown size t.out u.out (record { more = y.more; out = y.out }) p

  -- an answer that is hard is right
  said_hard : (syncs : List Operation) (t : Turn) (op : ℕ) → IsHardSync syncs t op → Alive t.here → (others : List Association) → I t others → AskedAll syncs → Said t.out → Said (t.out ++ outputs.Answer op answers.Hard ∷ [])
  said_hard syncs t op q live others r f h =
      hards_both asked c lives before t.out (outputs.Answer op answers.Hard ∷ []) sc h
      (record {
        one = record {
          file = q.file;
          is = ap asked (sym q.op_is) ∙ f (key q.operation) (has_key syncs q.operation q.has) ∙ ap (λ z. Some z) q.was_asked;
          all = file_hard c lives t.here q.file (After c before sc t.out).world.log q.own live q.hard r.around.here.entries (gone_says (Ungone c lives) c before t.out sc gone);
        };
        rest = tt;
      })

  quiet : (t : Turn) (o : Output) → Unhard o → Said t.out → Said (t.out ++ o ∷ [])
  quiet t o q h = quiet_hards asked c lives before t.out (t.out ++ o ∷ []) sc h (since_one Unhard t.out o q)

  answered : (syncs : List Operation) (t : Turn) (op : ℕ) (a : AppAnswer) → AnswersRight syncs t op a → Alive t.here → (others : List Association) → I t others → AskedAll syncs → Said t.out → Said (t.out ++ outputs.Answer op a ∷ [])
  answered syncs t op answers.Hard q live others r f h = said_hard syncs t op q live others r f h
  answered syncs t op a q live others r f h = quiet t (outputs.Answer op a) tt h

  said_one : (syncs : List Operation) (t : Turn) (o : Output) → SaysRight syncs now t o → Alive t.here → (others : List Association) → I t others → AskedAll syncs → Said t.out → Said (t.out ++ o ∷ [])
  said_one syncs t (outputs.Answer op a) q live others r f h = answered syncs t op a q live others r f h
  said_one syncs t (outputs.Send m) q live others r f h = quiet t (outputs.Send m) tt h
  said_one syncs t (outputs.Submit n at what) q live others r f h = quiet t (outputs.Submit n at what) tt h
  said_one syncs t (outputs.Note n) q live others r f h = quiet t (outputs.Note n) tt h

  -- one change of a pass, and changes
  change_said : (syncs : List Operation) (t u : Turn) (ch : Change now t u) → IsPassing syncs KeepsOrAsks now t u ch → Alive t.here →
      (others : List Association) → I t others → AskedAll syncs → Said t.out → Said u.out
  unfolding cp.submit_read cp.submit_write cp.submit_command
  change_said syncs t _ (client.Says _ o p) q live others r f h = said_one syncs t o q live others r f h
  change_said syncs t _ (client.Operates _ os) q live others r f h = h
  change_said syncs t _ (client.Answers _ os ops a) q live others r f h = absurd q
  change_said syncs t _ (client.Greets _ g) q live others r f h = h
  change_said syncs t _ (client.TellsLost _ lost) q live others r f h = absurd q
  change_said syncs t _ (client.Begins _ s a b x) q live others r f h = absurd q
  change_said syncs t _ (client.Follows _ s v e g) q live others r f h = h
  change_said syncs t _ (client.Learns _ e a b) q live others r f h = absurd q
  change_said syncs t _ (client.Forgets _ ino p i) q live others r f h = h
  change_said syncs t _ (client.Caches _ clean) q live others r f h = h
  change_said syncs t _ (client.Writes _ s g p bytes n se sv own m x) q live others r f h = quiet t (outputs.Note n) tt h
  change_said syncs t _ (client.Reads _ ino p m i clean) q live others r f h = quiet t _ tt h
  change_said syncs t _ (client.Submits _ s ino p d m se e i w) q live others r f h = quiet t _ tt h

  changes_said : (syncs : List Operation) (t v : Turn) → Only (IsPassing syncs KeepsOrAsks) now t v → (others : List Association) →
      OfOthers t.here.server others → Alive t.here → Placed size v.out → I t others → AskedAll syncs → Said t.out → Said v.out
  changes_said syncs t _ (only.Ends _) others n live p r f h = h
  changes_said syncs t v (Goes _ u _ ch q rest) others n live p r f h =
      let x = change_next now t u ch in
      changes_said syncs u v rest others (others_next past size c before sc site there count holds now t.here.server u.here.server others x.server n) (right_next past size c before sc site there count holds now t.here u.here x.server x.life live) p
      (moves t u (one ch) others n live (grown u v (all (IsPassing syncs KeepsOrAsks) now u v rest) p) r) f (change_said syncs t u ch q live others r f h)

  -- all passes at a server
  pub passes_said : (tick : Bool) (t : Turn) (others : List Association) → OfOthers t.here.server others → Alive t.here → Placed size (cp.passes now tick t).out → I t others → AskedAll t.operations → Said t.out → Said (cp.passes now tick t).out
  passes_said tick t others n live p r q h = changes_said t.operations t (cp.passes now tick t) (passes_keep_or_ask now tick t) others n live p r q h

  -- all passes at each server
  abbrev pub A : ClientTurn → List Association → Type 0
  A t al = All past size c before sc site there count holds now t al

  pub these_said : (tick : Bool) (al : List Association) (t : ClientTurn) → ((b : Association) → Has b al → Knows size b.server b.store.extents) → Placed size (at_these (cp.passes now tick) al t).out → A t (t.state.associations ++ al) → AskedAll t.state.operations → Said t.out → Said (at_these (cp.passes now tick) al t).out
  unfolding at_these
  these_said tick [] t k p h q s = s
  these_said tick (a ∷ rest) t k p h q s =
      these_said tick rest (leave t u) (λ b i. k b (inr i)) p
      (all_left past size c before sc site there count holds now t a rest u x (moves (enter t a) u d others apart live placed here) h)
      (λ y i. q y ((passes_place size now tick (enter t a) fit (k a (inl refl))).from y i))
      (passes_said tick (enter t a) others apart live placed here q s)
    where
      u : Turn
      u = cp.passes now tick (enter t a)

      d : Changes now (enter t a) u
      d = changes_by_passes now tick (enter t a)

      x : Next now (enter t a) u
      x = changes_next now (enter t a) u d

      fit : Fit a
      fit = h.fit a (has_mid t.state.associations rest a)

      others : List Association
      others = t.state.associations ++ rest

      apart : OfOthers a.server (t.state.associations ++ rest)
      apart = others_apart t.state.associations rest a h.once

      live : Alive a
      live = h.right a (has_mid t.state.associations rest a)

      behind : (done : List Association) (b : Association) → Has b rest → Has b (done ++ a ∷ rest)
      behind [] b i = inr i
      behind (e ∷ done) b i = inr (behind done b i)

      placed : Placed size u.out
      placed =
          placed_grown size u.out (at_these (cp.passes now tick) rest (leave t u)).out
          (these_grow past size c before sc site there count holds now (cp.passes now tick) (λ z f. changes_next now z _ (changes_by_passes now tick z)) rest (leave t u) (λ b i. h.fit b (behind t.state.associations b i))) p

      here : I (enter t a) (t.state.associations ++ rest)
      here =
          record {
            around =
                record {
                  here = h.cared a (has_mid t.state.associations rest a);
                  cared = λ b i. h.cared b (has_others t.state.associations rest a b i);
                  apart = h.apart a (has_mid t.state.associations rest a);
                  aparts = λ b i. h.apart b (has_others t.state.associations rest a b i);
                  numbers = h.numbers;
                };
            latest_here = h.latests a (has_mid t.state.associations rest a);
            latests = λ b i. h.latests b (has_others t.state.associations rest a b i);
          }

  pub each_said_at : (tick : Bool) (t : ClientTurn) → ((b : Association) → Has b t.state.associations → Knows size b.server b.store.extents) → Placed size (at_each (cp.passes now tick) t).out → A t t.state.associations → AskedAll t.state.operations → Said t.out →
      Said (at_each (cp.passes now tick) t).out
  unfolding at_each
  each_said_at tick t k p h q s =
      these_said tick t.state.associations (with_associations [] t) k p (record { cared = h.cared; apart = h.apart; numbers = h.numbers; right = h.right; once = h.once; fit = h.fit; latests = h.latests }) q s
