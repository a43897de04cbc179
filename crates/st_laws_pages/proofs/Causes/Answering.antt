-- A whole step of a client: which syncs it answers hard, and which operations it leaves.
use Rattle.st_lemmas.proofs.Words
use Words.{◌≡◌, ℕ, Bool, true, false, ◌⊎◌, List, [], ◌∷◌, ◌++◌, Option, Some, sym, subst, refl, inl, inr, if◌then◌else◌, length, map, ClientId, FileId, Stamp}
use Words.{Ask, ClientInput, Operation}
use Words.answers
use Words.asks
use Words.outputs
use Words.inputs
use Words.Client as cl
use Words.ClientPages as pages
use Words.ClientPasses as cp
use Words.ClientReplies as cr
use Words.ClientState.{Association, ClientState, ClientTurn, Turn, at_each, at_these, client_turn, enter, is_at, leave, only_at, server_of, with_associations}
use Words.Events as ev
use Words.Events.{WorldTurn}
use Words.Safety.{Step}
use Words.World.{World, WorldClient, life_with, site_of}
use Words.Lists.{Has}
use Rattle.st_laws_pages.specs.Fates.Fates.{GoneAll}
use Rattle.st_laws_pages.specs.Flush.Flush.{NodeCared}
use Rattle.st_laws_steps.specs.Lives.Lives.{LivesHold}
use Rattle.st_laws_steps.specs.Client.Losses.{Fit}
use Rattle.st_laws_steps.specs.Client.Inputs as taking
use Rattle.st_laws_steps.specs.Client.Inputs.{Taken}
use Rattle.st_laws_steps.proofs.Client.Taking.{taken}
use Rattle.st_laws_pages.proofs.Flush.Flushing.{InputTold}
use Rattle.st_laws_pages.proofs.Asks.Client.{key}
use Rattle.st_laws_pages.proofs.Asks.Places.{Knows}
use Rattle.st_laws_pages.specs.Causes.Invariants.{CommandsStand, LatestOwn}
use Rattle.st_laws_pages.proofs.Causes.Hardly.{Hards, Ungone, each_said_at, quiet_hards}
use Rattle.st_laws_pages.proofs.Causes.Placed.{AllPlaced, From, InputTells, Placed, Since, each_from, each_place, finish_places, receive_places, input_places}
use Rattle.st_laws_pages.proofs.Causes.Placed.{lose_places, only_left, passes_place, since_none, since_one, since_then}
use Rattle.st_laws_pages.proofs.Causes.Saying.{placed_grown}
use Rattle.st_laws_pages.proofs.Causes.Stepping.{input_all, phases, work_grows}
use Rattle.st_laws_steps.specs.Client.Client.{Unhard}
use Rattle.st_laws_pages.proofs.Causes.Unhard.{H, unhard_kept_by_ask, unhard_kept_by_finish, unhard_kept_by_receive, unhard_kept_by_lose}

-- A rule at each server in turn answers no sync hard.
these_unhard : (rule : Turn → Turn) → ((t : Turn) → Fit t.here → H t (rule t)) → (al : List Association) (t : ClientTurn) →
    ((a : Association) → Has a al → Fit a) → Since Unhard t.out (at_these rule al t).out
unfolding at_these
these_unhard rule one [] t f = since_none Unhard t.out
these_unhard rule one (a ∷ al) t f =
    since_then Unhard t.out (rule (enter t a)).out (at_these rule al (leave t (rule (enter t a)))).out (one (enter t a) (f a (inl refl)))
    (these_unhard rule one al (leave t (rule (enter t a))) (λ b i. f b (inr i)))

each_unhard : (rule : Turn → Turn) → ((t : Turn) → Fit t.here → H t (rule t)) → (t : ClientTurn) → ((a : Association) → Has a t.state.associations → Fit a) →
    Since Unhard t.out (at_each rule t).out
unfolding at_each
each_unhard rule one t f = these_unhard rule one t.state.associations (with_associations [] t) f

input_unhard : (now : Stamp) (input : ClientInput) (t u : ClientTurn) → Taken t now input u → ((a : Association) → Has a t.state.associations → Fit a) →
    Since Unhard t.out u.out
input_unhard now _ t _ (taking.Nothing i) f = since_none Unhard t.out
input_unhard now _ t _ (taking.Full op ask e) f = since_one Unhard t.out (outputs.Answer op answers.OpsFull) tt
input_unhard now _ t _ (taking.Unknown op ask e g) f = since_one Unhard t.out (outputs.Answer op answers.NoFile) tt
input_unhard now _ t _ (taking.Takes op ask e g) f = each_unhard (only_at (server_of ask) (cl.take_ask op ask))
    (λ u g. unhard_kept_by_ask (server_of ask) op ask u) t f
input_unhard now _ t _ (taking.Receives m e) f = each_unhard (cr.receive_at now m.header m.body) (λ u g. unhard_kept_by_receive now m.header m.body u g.fresh) t
    f
input_unhard now _ t _ (taking.Finishes number r) f = each_unhard (cl.finish number r) (λ u g. unhard_kept_by_finish number r u) t f

-- The operations after an ask: those that there were, and it.
abbrev OrNew : List (ℕ × Ask) → ℕ × Ask → List Operation → Type 0
OrNew ks new ops = (k : ℕ × Ask) → Has k (map key ops) → Has k ks ⊎ (k ≡ new)

last_key : (ops : List Operation) (o : Operation) (k : ℕ × Ask) → Has k (map key (ops ++ o ∷ [])) → Has k (map key ops) ⊎ (k ≡ key o)
last_key [] o k (inl e) = inr e
last_key [] o k (inr i) = absurd i
last_key (x ∷ ops) o k (inl e) = inl (inl e)
last_key (x ∷ ops) o k (inr i) = go (last_key ops o k i)
  where
    go : Has k (map key ops) ⊎ (k ≡ key o) → Has k (map key (x ∷ ops)) ⊎ (k ≡ key o)
    go (inl j) = inl (inr j)
    go (inr e) = inr e

ask_one : (s : _) (op : ℕ) (ask : Ask) (t : Turn) → OrNew (map key t.operations) (op, ask) (only_at s (cl.take_ask op ask) t).operations
unfolding only_at cl.take_ask cl.take_by cl.take_sync cl.enqueue cl.tell_lost
ask_one s op ask t = go (is_at s t.here)
  where
    enqueued : OrNew (map key t.operations) (op, ask) (cl.enqueue t op ask).operations
    enqueued = λ k i. last_key t.operations (Rattle.st_rules.specs.ClientState.new_operation op ask) k i

    lost : (g : FileId) (b : Bool) → OrNew (map key t.operations) (op, ask) (if b then cl.tell_lost t op g.ino else cl.enqueue t op ask).operations
    lost g true = λ k i. inl i
    lost g false = enqueued

    by : (a : Ask) → OrNew (map key t.operations) (op, ask) (cl.take_by t op ask a).operations
    by (asks.Sync g) = lost g (pages.has_lost t.here.lost g.ino)
    by a = enqueued

    go : (b : Bool) → OrNew (map key t.operations) (op, ask) (if b then cl.take_ask op ask t else t).operations
    go true = by ask
    go false = λ k i. inl i

ask_these : (s : _) (op : ℕ) (ask : Ask) (al : List Association) (t : ClientTurn) →
    OrNew (map key t.state.operations) (op, ask) (at_these (only_at s (cl.take_ask op ask)) al t).state.operations
unfolding at_these
ask_these s op ask [] t = λ k i. inl i
ask_these s op ask (a ∷ al) t = λ k i. go k (ask_these s op ask al (leave t (only_at s (cl.take_ask op ask) (enter t a))) k i)
  where
    go : (k : ℕ × Ask) → Has k (map key (only_at s (cl.take_ask op ask) (enter t a)).operations) ⊎ (k ≡ (op, ask)) →
        Has k (map key t.state.operations) ⊎ (k ≡ (op, ask))
    go k (inl i) = ask_one s op ask (enter t a) k i
    go k (inr e) = inr e

-- what an input asks
abbrev pub AsksIt : (ℕ → Option Ask) → ClientInput → Type 0
AsksIt asked (inputs.App op ask) = asked op ≡ Some ask
AsksIt asked input = Unit {0}

abbrev pub KeysAsked : (ℕ → Option Ask) → List Operation → Type 0
KeysAsked asked os = (k : ℕ × Ask) → Has k (map key os) → asked k.0 ≡ Some k.1

from_asked : (asked : ℕ → Option Ask) (os ps : List Operation) → From (map key os) ps → KeysAsked asked os → KeysAsked asked ps
from_asked asked os ps f h = λ k i. h k (f k i)

input_asked : (n : ℕ) (now : Stamp) (asked : ℕ → Option Ask) (input : ClientInput) (t u : ClientTurn) → Taken t now input u → InputTells n input →
    AsksIt asked input → ((b : Association) → Has b t.state.associations → Fit b) →
    ((b : Association) → Has b t.state.associations → Knows n b.server b.store.extents) →
    KeysAsked asked t.state.operations → KeysAsked asked u.state.operations
unfolding at_each
input_asked n now asked _ t _ (taking.Nothing i) told new f k h = h
input_asked n now asked _ t _ (taking.Full op ask e) told new f k h = h
input_asked n now asked _ t _ (taking.Unknown op ask e g) told new f k h = h
input_asked n now asked _ t _ (taking.Takes op ask e g) told new f k h =
    λ x i. either x (ask_these (server_of ask) op ask t.state.associations (with_associations [] t) x i)
  where
    either : (x : ℕ × Ask) → Has x (map key t.state.operations) ⊎ (x ≡ (op, ask)) → asked x.0 ≡ Some x.1
    either x (inl i) = h x i
    either x (inr e) = subst (λ (y : ℕ × Ask). asked y.0 ≡ Some y.1) (sym e) new
input_asked n now asked _ t _ (taking.Receives m e) told new f k h =
    from_asked asked t.state.operations (at_each (cr.receive_at now m.header m.body) t).state.operations
    (each_from n (cr.receive_at now m.header m.body) (receive_places n now m.header m.body told) t f k) h
input_asked n now asked _ t _ (taking.Finishes number r) told new f k h =
    from_asked asked t.state.operations (at_each (cl.finish number r) t).state.operations
    (each_from n (cl.finish number r) (finish_places n now number r) t f k) h

-- The whole step.
module _ (past : List Step) (w : World) (c : ClientId) (old site : WorldClient) (input : ClientInput) (now : Stamp) (there : site_of w c ≡ Some old)
    (same : old.node ≡ site.node) (starts : old.starts ≡ site.starts) (h : LivesHold w) where
  abbrev s : ClientState
  s = site.node.state

  abbrev t : ClientTurn
  t = cl.losses (client_turn s []) now

  abbrev u : ClientTurn
  u = cl.take_input t now input

  abbrev v : ClientTurn
  v = cl.work u now input

  abbrev after : WorldClient
  after = ev.at_node (cl.node_turn site.node v).node site

  abbrev sc : WorldTurn
  sc = ev.quiet (ev.with_site c after w)

  module _ (size : ℕ) (own : site_of sc.world c ≡ Some after) (count : length sc.world.servers ≡ size) (holds : CommandsStand w.log w.commands w.disks.commands)
      (placed : Placed size v.out) (told : InputTold past sc c site.starts input) (cared : NodeCared past w.commands w.log c old)
      (latest : (a : Association) → Has a old.node.state.associations → LatestOwn c w.log a) (asked : ℕ → Option Ask)
      (gone : GoneAll (Ungone c (life_with after.node.state)) w.log) (tells : InputTells size input) (new : AsksIt asked input)
      (fit : (b : Association) → Has b s.associations → Fit b) (knows : (b : Association) → Has b s.associations → Knows size b.server b.store.extents)
      (known : KeysAsked asked s.operations) where
    lost : AllPlaced size (client_turn s []) t
    unfolding cl.losses
    lost = each_place size (cl.lose now) (only_left size (cl.lose now) (lose_places size now)) (client_turn s []) fit knows

    fits_t : (b : Association) → Has b t.state.associations → Fit b
    fits_t = (phases past w c old site input now there same starts h).fit

    fits_u : (b : Association) → Has b u.state.associations → Fit b
    fits_u = (phases past w c old site input now there same starts h).fit_too

    places : AllPlaced size t u
    places = input_places size now input t u (taken t now input) tells fits_t lost.knows

    asked_t : KeysAsked asked t.state.operations
    unfolding cl.losses
    asked_t = from_asked asked s.operations t.state.operations (each_from size (cl.lose now) (lose_places size now) (client_turn s []) fit knows) known

    asked_u : KeysAsked asked u.state.operations
    asked_u = input_asked size now asked input t u (taken t now input) tells new fits_t lost.knows asked_t

    pub step_asked : KeysAsked asked v.state.operations
    unfolding cl.work
    step_asked =
        from_asked asked u.state.operations v.state.operations
        (each_from size (cp.passes now (cl.is_tick input)) (passes_place size now (cl.is_tick input)) u fits_u places.knows) asked_u

    said_u : Hards asked c (λ r. life_with after.node.state r) s sc u.out
    unfolding cl.losses
    said_u = quiet_hards asked c (λ r. life_with after.node.state r) s [] u.out sc tt
        (since_then Unhard [] t.out u.out (each_unhard (cl.lose now) (λ z g. unhard_kept_by_lose now z) (client_turn s []) fit)
        (input_unhard now input t u (taken t now input) fits_t))

    pub step_said : Hards asked c (λ r. life_with after.node.state r) s sc v.out
    unfolding cl.work
    step_said =
        each_said_at past size c s sc after own count holds now asked gone (cl.is_tick input) u places.knows placed
        (input_all past w c old site input now there same starts h size own count holds placed told cared latest input u (taken t now input) told
        (placed_grown size u.out v.out (work_grows past w c old site input now there same starts h size own count holds placed told cared latest) placed))
        asked_u said_u
