-- Every event: replies of extents answer requests that were sent.
use Rattle.st_lemmas.proofs.Words
use Words.{◌≡◌, ◌≢◌, ◌⊎◌, ℕ, ◌+◌, true, List, Some, sym, ap, ◌∙◌, subst, inl, inr, arith, ClientId, ServerId, ExtentRow, Message}
use Words.bodies
use Words.outputs
use Words.Keys.{client, server_node}
use Words.Server.{ServerNode, ServerTurn, server_step}
use Words.World.{World, node_of, numbered, with_numbered}
use Words.Lists.{Has}
use Words.Lookups.{some_is}
use Words.Numbers.{numbered_below, numbered_other, numbered_own}
use Words.Tables.{same_or_not}
use Words.Truth.{server_is}
use Rattle.st_laws_leases.specs.Dates.Dates.{messages}
use Rattle.st_laws_extents.specs.ExtentReplies.Events.{EventTells, ServerSteps, Stays}
use Rattle.st_laws_extents.specs.ExtentReplies.Steps.{KeptRows, StepTells, ToldBy}
use Rattle.st_laws_extents.proofs.ExtentReplies.Step.{step_tells}
use Rattle.st_laws_extents.specs.LockedRequests.Keys.{HasKey, KeysTold}

module _ (w v : World) (grown : (m : Message) → Has m (messages w) → Has m (messages v)) (ids : (s : ServerId) (n : ServerNode) → node_of w s ≡ Some n → n.state.id ≡ s) (h : KeysTold w) where
  keys_are_kept : (c : ClientId) (s : ServerId) (life epoch number : ℕ) → HasKey w c s life epoch number → HasKey v c s life epoch number
  keys_are_kept c s life epoch number k = record { by = k.by; among = grown k.by k.among; is = k.is }

  stays_keyed : Stays w v → KeysTold v
  stays_keyed y =
      record {
        sent = λ m ino rows i s e b. keys_are_kept (client m.header.to) s m.header.life m.header.epoch m.header.number
            (h.sent m ino rows (y.messages m i s e) s e b);
        kept = λ s node at run c life number ino rows k.
            let n = y.nodes s node at in
            let z = n.2.kept run c life number ino rows k in
            keys_are_kept c s life node.state.stable.epoch.0 number
            (subst (λ e. HasKey w c s life e number) (sym z.2) (h.kept s n.0 n.1 z.0 c life number ino rows z.1));
      }

  module _ (y : ServerSteps w v) where
    abbrev u : ServerTurn
    u = server_step y.node.state y.now y.input

    abbrev next : ServerNode
    next = record y.node { state = u.state }

    tells : StepTells y.node.state y.input u
    tells = step_tells y.node.state y.now y.input

    by : (to life number ino : ℕ) (rows : List ExtentRow) → ToldBy y.node.state y.input u.state.stable.extents to life number ino rows → HasKey v (client to) y.server life y.node.state.stable.epoch.0 number
    by to life number ino rows (inl k) = keys_are_kept (client to) y.server life y.node.state.stable.epoch.0 number
        (h.kept y.server y.node y.there y.running (client to) life number ino rows k)
    by to life number ino rows (inr a) =
        record {
          by = a.by;
          among = grown a.by (y.comes a.by a.is);
          is = record { between = (a.from, a.served.to ∙ ap server_node (ids y.server y.node y.there)); of_life = a.of_life; of_epoch = a.served.of_epoch; under = a.under };
        }

    sent_of : (m : Message) (ino : ℕ) (rows : List ExtentRow) → Has m (messages w) ⊎ Has (outputs.Send m) u.out → (s : ServerId) → m.header.from ≡ server_node s → m.body ≡ bodies.Extents ino rows → HasKey v (client m.header.to) s m.header.life m.header.epoch m.header.number
    sent_of m ino rows (inl i) s e b = keys_are_kept (client m.header.to) s m.header.life m.header.epoch m.header.number (h.sent m ino rows i s e b)
    sent_of m ino rows (inr i) s e b =
        subst (λ r. HasKey v (client m.header.to) r m.header.life m.header.epoch m.header.number) (server_is y.server s (number y.server.0 s.0 (sym (y.says m i) ∙ e)))
        (subst (λ n. HasKey v (client m.header.to) y.server m.header.life n m.header.number) (sym (y.dated m i)) (by m.header.to m.header.life m.header.number ino rows (tells.sent m ino rows i b)))
      where
        number : (i j : ℕ) → 32768 + i ≡ 32768 + j → i ≡ j
        number i j e = omega (arith, e)

    kept_of : (s : ServerId) (node : ServerNode) → node_of v s ≡ Some node → node.running ≡ true → (c : ClientId) (life number ino : ℕ) (rows : List ExtentRow) → KeptRows node.state.sessions c life number ino rows → HasKey v c s life node.state.stable.epoch.0 number
    kept_of s node at run c life number ino rows k = go (same_or_not s.0 y.server.0)
      where
        found : numbered (with_numbered y.server.0 next w.servers) s.0 ≡ Some node
        found = ap (λ xs. numbered xs s.0) (sym y.servers) ∙ at

        here : y.server ≡ s → node ≡ next → HasKey v c s life node.state.stable.epoch.0 number
        here e n =
            subst (λ r. HasKey v c r life node.state.stable.epoch.0 number) e
            (subst (λ j. HasKey v c y.server life j number) (sym (ap (λ (x : ServerNode). x.state.stable.epoch.0) n ∙ y.epoch))
            (by c.0 life number ino rows (tells.kept c life number ino rows (subst (λ (x : ServerNode). KeptRows x.state.sessions c life number ino rows) n k))))

        go : (s.0 ≡ y.server.0) ⊎ (s.0 ≢ y.server.0) → HasKey v c s life node.state.stable.epoch.0 number
        go (inl e) = here (server_is y.server s (sym e)) (some_is (sym found ∙ ap (numbered (with_numbered y.server.0 next w.servers)) e ∙ numbered_own w.servers y.server.0 next y.node y.there))
        go (inr n) = keys_are_kept c s life node.state.stable.epoch.0 number
            (h.kept s node (sym (numbered_other w.servers y.server.0 s.0 next (numbered_below w.servers y.server.0 y.node y.there).0 n) ∙ found) run c life
            number ino rows k)

    steps_keyed : KeysTold v
    steps_keyed = record { sent = λ m ino rows i s e b. sent_of m ino rows (y.messages m i) s e b; kept = λ s node at run c life number ino rows k. kept_of s node at run c life number ino rows k }

  -- an event
  pub keyed_step : EventTells w v → KeysTold v
  keyed_step (inl y) = stays_keyed y
  keyed_step (inr y) = steps_keyed y
