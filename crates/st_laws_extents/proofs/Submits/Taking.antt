-- When a client takes an input: the world in which it does, and what it leaves.
use Rattle.st_lemmas.proofs.Words
use Words.{◌≡◌, ◌≢◌, ℕ, zero, suc, ◌+◌, ◌⊎◌, Bool, true, false, Option, Some, None, Ok, Err, refl, sym, ap, ◌∙◌, subst, inl, inr, if◌then◌else◌, length}
use Words.{ClientId, NodeId, Event, Message, ClientInput, DiskCommand, Report, IssuedCommand, SentMessage}
use Words.nodes
use Words.events
use Words.inputs
use Words.reports
use Words.serving
use Words.Client as cl
use Words.Disks as disks
use Words.Disks.{Disks}
use Words.Events as ev
use Words.World.{World, WorldClient, clock_of, issued_of, message_of, node_of, receiver_of, site_of}
use Words.Lists.{Has}
use Words.Lookups.{some_is}
use Words.Numbers.{numbered_has, set_length}
use Rattle.st_rules.specs.declared.disks.CommandRefusal.TheVariants as refusals
use Rattle.st_laws_pages.specs.Disks.Obligations.{AtClient, AtAsk, AtDelivery, AtNode, AtReport, AtServer, AtTold, NodeOwes, Owed}
use Rattle.st_laws_pages.proofs.Disks.World.{at_set}
use Rattle.st_laws_pages.proofs.Causes.Placed.{InputTells, PlacesAt}
use Rattle.st_laws_reads.specs.Copies.World.{Taking, asking, receiving, receiving_of, taken, taking, told_at, told_of}
use Rattle.st_laws_pages.proofs.Disks.Opens.{shut}

-- A command except for its report was there.
pub record WasCommand (ds : Disks) (k : ℕ) (c : DiskCommand) : Type 0 where
  pub command : DiskCommand
  pub is : disks.command_at ds.commands k ≡ Some command
  pub what : c.what ≡ command.what
  pub sample : c.sample ≡ command.sample

-- An open command of these disks is one of those.
pub record SameOpen (ds es : Disks) : Type 0 where
  pub count : length es.commands ≡ length ds.commands
  pub same : (k : ℕ) (c : DiskCommand) → disks.command_at es.commands k ≡ Some c → c.report ≡ reports.Open → disks.command_at ds.commands k ≡ Some c
  pub was : (k : ℕ) (c : DiskCommand) → disks.command_at es.commands k ≡ Some c → WasCommand ds k c

same_disks : (ds : Disks) → SameOpen ds ds
same_disks ds = record { count = refl; same = λ k c i o. i; was = λ k c i. record { command = c; is = i; what = refl; sample = refl } }

pub report_open : (d : Disks) (n : ℕ) (ok : Bool) → SameOpen d (ev.disks_after d (disks.done d n ok))
unfolding disks.done disks.done_at disks.done_unreported disks.done_once
report_open d zero ok = same_disks d
report_open d (suc n) ok = at (disks.command d (suc n)) refl
  where
    told : (c : DiskCommand) → disks.command d (suc n) ≡ Some c → SameOpen d (disks.with_command (suc n) (disks.reported ok c) d)
    told c e = record { count = set_length d.commands n (disks.reported ok c); same = λ k y i o. go k y o (at_set d.commands n k (disks.reported ok c) y i); was = λ k y i. before k y (at_set d.commands n k (disks.reported ok c) y i) }
      where
        before : (k : ℕ) (y : DiskCommand) → ((k ≡ suc n) × (y ≡ disks.reported ok c)) ⊎ ((k ≢ suc n) × (disks.command_at d.commands k ≡ Some y)) → WasCommand d k y
        before k y (inl q) = record { command = c; is = ap (disks.command_at d.commands) q.0 ∙ e; what = ap (λ (z : DiskCommand). z.what) q.1; sample = ap (λ (z : DiskCommand). z.sample) q.1 }
        before k y (inr q) = record { command = y; is = q.1; what = refl; sample = refl }

        go : (k : ℕ) (y : DiskCommand) → y.report ≡ reports.Open → ((k ≡ suc n) × (y ≡ disks.reported ok c)) ⊎ ((k ≢ suc n) × (disks.command_at d.commands k ≡ Some y)) → disks.command_at d.commands k ≡ Some y
        go k y o (inl q) = absurd (shut ok (sym (ap (λ (z : DiskCommand). z.report) q.1) ∙ o))
        go k y o (inr q) = q.1

    once : (c : DiskCommand) → disks.command d (suc n) ≡ Some c → (b : Bool) → SameOpen d (ev.disks_after d (if b then Err (refusals.NotEffected (suc n)) else Ok (disks.with_command (suc n) (disks.reported ok c) d)))
    once c e true = same_disks d
    once c e false = told c e

    reported : (c : DiskCommand) → disks.command d (suc n) ≡ Some c → (r : Report) → SameOpen d (ev.disks_after d (disks.done_unreported d (suc n) ok c r))
    reported c e reports.Open = once c e (disks.lacks_effect ok c)
    reported c e reports.Succeeded = same_disks d
    reported c e reports.Failed = same_disks d

    at : (o : Option DiskCommand) → disks.command d (suc n) ≡ o → SameOpen d (ev.disks_after d (disks.done_at d (suc n) ok o))
    at None e = same_disks d
    at (Some c) e = reported c e c.report

-- The world in which it does: with other disks at most.
pub record TakenIn (w : World) (x : Taking) : Type 0 where
  pub disks : Disks
  pub is : x.world ≡ ev.with_disks disks w
  pub open_ : SameOpen w.disks disks
  pub tells : InputTells (length w.servers) x.input
  pub starts : (old : WorldClient) → site_of w x.client ≡ Some old → old.starts ≡ x.site.starts

in_same : (w : World) (c : ClientId) (input : ClientInput) (site : WorldClient) (x : Taking) → InputTells (length w.servers) input → ((old : WorldClient) → site_of w c ≡ Some old → old.starts ≡ site.starts) → record { world = w; client = c; input = input; site = site } ≡ x → TakenIn w x
in_same w c input site x t f e = subst (TakenIn w) e (record { disks = w.disks; is = refl; open_ = same_disks w.disks; tells = t; starts = f })

same_starts : (w : World) (c : ClientId) (site old : WorldClient) → site_of w c ≡ Some site → site_of w c ≡ Some old → old.starts ≡ site.starts
same_starts w c site old a b = ap (λ (z : WorldClient). z.starts) (some_is (sym b ∙ a))

by_client : (w : World) (c : ClientId) (input : ClientInput) (o : Option WorldClient) (x : Taking) → InputTells (length w.servers) input → site_of w c ≡ o → taking w c input o ≡ Some x → TakenIn w x
by_client w c input None x t f e = cc e
by_client w c input (Some site) x t f e = in_same w c input site x t (λ old g. same_starts w c site old f g) (some_is e)

pub taken_in : (w : World) (e : Event) (x : Taking) → PlacesAt (length w.servers) w → taken w e ≡ Some x → TakenIn w x
taken_in w (events.Tick (nodes.Client c)) x p q = by_client w c inputs.Tick (site_of w c) x tt refl q
taken_in w (events.Tick (nodes.Server s)) x p q = cc q
taken_in w (events.App c ask) x p q = go (site_of w c) refl q
  where
    go : (o : Option WorldClient) → site_of w c ≡ o → asking w c ask o ≡ Some x → TakenIn w x
    go None f q = cc q
    go (Some site) f q = in_same w c (inputs.App (site.asks + 1) ask) (ev.asked_once_more site) x tt (λ old g. same_starts w c site old f g) (some_is q)
taken_in w (events.Deliver n) x p q = go (message_of w n) refl q
  where
    to : (m : SentMessage) → Has m w.net.messages → (r : NodeId) → receiving w m.message r ≡ Some x → TakenIn w x
    to m i (nodes.Client c) q = by_client w c (inputs.Control m.message) (site_of w c) x (p.told m i) refl q
    to m i (nodes.Server s) q = cc q

    go : (o : Option SentMessage) → message_of w n ≡ o → receiving_of w o ≡ Some x → TakenIn w x
    go None e q = cc q
    go (Some m) e q = to m (numbered_has w.net.messages n m e) (receiver_of m) q
taken_in w (events.Report n ok) x p q = go (issued_of w n) q
  where
    v : World
    v = ev.with_disks (ev.disks_after w.disks (disks.done w.disks n ok)) w

    at : (y : IssuedCommand) (site : WorldClient) → site_of w y.client ≡ Some site → (b : Bool) →
        (if b then taking (ev.with_disks (ev.disks_after w.disks (disks.done w.disks n ok)) w) y.client (ev.end_told (ev.with_disks (ev.disks_after w.disks (disks.done w.disks n ok)) w) n ok y) (Some site) else None) ≡ Some x → TakenIn w x
    at y site f true q = subst (TakenIn w) (some_is q) (record { disks = ev.disks_after w.disks (disks.done w.disks n ok); is = refl; open_ = report_open w.disks n ok; tells = tt; starts = λ old g. same_starts w y.client site old f g })
    at y site f false q = cc q

    at_site : (y : IssuedCommand) (o : Option WorldClient) → site_of w y.client ≡ o → told_at (ev.with_disks (ev.disks_after w.disks (disks.done w.disks n ok)) w) n ok y o ≡ Some x → TakenIn w x
    at_site y None f q = cc q
    at_site y (Some site) f q = at y site f (ev.is_same_instance y site) q

    go : (o : Option IssuedCommand) → told_of (ev.with_disks (ev.disks_after w.disks (disks.done w.disks n ok)) w) n ok o ≡ Some x → TakenIn w x
    go None q = cc q
    go (Some y) q = at_site y (site_of w y.client) refl q
taken_in w e x p q = cc q

-- What is owed of the pages, from what is owed of what is taken, and at a server.
abbrev pub Gives : Taking → Type 0
Gives x = NodeOwes x.world x.client x.site (cl.node_step x.site.node (clock_of x.world (nodes.Client x.client)) x.input)

-- of a server, by the event
abbrev pub ReceiverGives : World → Message → NodeId → Type 0
ReceiverGives w m (nodes.Client c) = Unit {0}
ReceiverGives w m (nodes.Server s) = AtServer w s (serving.Control m) (node_of w s)

abbrev pub MessageGives : World → Option SentMessage → Type 0
MessageGives w None = Unit {0}
MessageGives w (Some m) = ReceiverGives w m.message (receiver_of m)

abbrev pub ServerGives : World → Event → Type 0
ServerGives w (events.Tick (nodes.Server s)) = AtServer w s serving.Tick (node_of w s)
ServerGives w (events.Deliver n) = MessageGives w (message_of w n)
ServerGives w e = Unit {0}

module _ (w : World) where
  client_gives : (v : World) (c : ClientId) (input : ClientInput) (o : Option WorldClient) → ((x : Taking) → taking v c input o ≡ Some x → Gives x) → AtClient v c input o
  client_gives v c input None f = tt
  client_gives v c input (Some site) f = f (record { world = v; client = c; input = input; site = site }) refl

  pub owed_of : (e : Event) → ((x : Taking) → taken w e ≡ Some x → Gives x) → ServerGives w e → Owed w e
  owed_of (events.Tick (nodes.Client c)) f g = client_gives w c inputs.Tick (site_of w c) f
  owed_of (events.Tick (nodes.Server s)) f g = g
  owed_of (events.App c ask) f g = go (site_of w c) f
    where
      go : (o : Option WorldClient) → ((x : Taking) → asking w c ask o ≡ Some x → Gives x) → AtAsk w c ask o
      go None f = tt
      go (Some site) f = f (record { world = w; client = c; input = inputs.App (site.asks + 1) ask; site = ev.asked_once_more site }) refl
  owed_of (events.Deliver n) f g = go (message_of w n) f g
    where
      to : (m : Message) (r : NodeId) → ((x : Taking) → receiving w m r ≡ Some x → Gives x) → ReceiverGives w m r → AtNode w m r
      to m (nodes.Client c) f g = client_gives w c (inputs.Control m) (site_of w c) f
      to m (nodes.Server s) f g = g

      go : (o : Option SentMessage) → ((x : Taking) → receiving_of w o ≡ Some x → Gives x) → MessageGives w o → AtDelivery w o
      go None f g = tt
      go (Some m) f g = to m.message (receiver_of m) f g
  owed_of (events.Report n ok) f g = go (issued_of w n) f
    where
      at : (y : IssuedCommand) (site : WorldClient) (b : Bool) →
          ((x : Taking) → (if b then taking (ev.with_disks (ev.disks_after w.disks (disks.done w.disks n ok)) w) y.client (ev.end_told (ev.with_disks (ev.disks_after w.disks (disks.done w.disks n ok)) w) n ok y) (Some site) else None) ≡ Some x → Gives x) → b ≡ true →
          Gives (record { world = ev.with_disks (ev.disks_after w.disks (disks.done w.disks n ok)) w; client = y.client; input = ev.end_told (ev.with_disks (ev.disks_after w.disks (disks.done w.disks n ok)) w) n ok y; site = site })
      at y site true f e = f _ refl
      at y site false f e = cc e

      at_site : (y : IssuedCommand) (o : Option WorldClient) → ((x : Taking) → told_at (ev.with_disks (ev.disks_after w.disks (disks.done w.disks n ok)) w) n ok y o ≡ Some x → Gives x) → AtTold (ev.with_disks (ev.disks_after w.disks (disks.done w.disks n ok)) w) n ok y o
      at_site y None f = tt
      at_site y (Some site) f = λ e. at y site (ev.is_same_instance y site) f e

      go : (o : Option IssuedCommand) → ((x : Taking) → told_of (ev.with_disks (ev.disks_after w.disks (disks.done w.disks n ok)) w) n ok o ≡ Some x → Gives x) → AtReport (ev.with_disks (ev.disks_after w.disks (disks.done w.disks n ok)) w) n ok o
      go None f = tt
      go (Some y) f = at_site y (site_of w y.client) f
  owed_of (events.Lose n) f g = tt
  owed_of (events.Cut x y) f g = tt
  owed_of (events.Heal x y) f g = tt
  owed_of (events.Advance steps) f g = tt
  owed_of (events.Effect n) f g = tt
  owed_of (events.Crash n) f g = tt
  owed_of (events.Start n) f g = tt
