-- Each date of the history is of a reply: a message of its server to its client, of its life and epoch, that may date a lease and whose
-- stamp is the date.
use Rattle.st_lemmas.proofs.Words
use Words.{◌≡◌, ℕ, ◌+◌, not, List, [], ◌∷◌, ◌++◌, Option, Some, None, refl, sym, ap, ◌∙◌, subst, inl, inr, ◌⊎◌, filter, find, map, eqb-true, ClientId, Life}
use Words.{ServerId, Stamp, Message, Note, Output, ClientInput, SentMessage}
use Words.notes
use Words.outputs
use Words.inputs
use Words.Client as cl
use Words.ClientState.{Association, ClientState, ClientTurn, is_at}
use Words.Events.{present_life}
use Words.History.{LeaseDate, association_of, association_at, is_date_of, lease_date, epoch_at, epoch_at_session}
use Words.Keys.{server_node}
use Words.World.{World, WorldClient, site_of}
use Words.Events as ev
use Words.World as world
use Words.Lists.{Has}
use Words.Tables.{found_at, has_append, has_filter, none_has}
use Rattle.st_laws_steps.specs.Lives.Lives.{Once, server_number}
use Rattle.st_laws_leases.specs.History.Replies.{Replied, DatesReplied, renews_lease}
use Rattle.st_laws_leases.proofs.History.Dates.{dates_one, dates_out}
use Rattle.st_laws_leases.proofs.History.Leasing.{leased}
use Rattle.st_laws_leases.proofs.History.Step.{AllNoted, Brings, Nothing, ToldBy, ends_before, step_all_noted}

-- a date after outputs was there, or was noted
pub noted_date : (v : World) (c : ClientId) (os : List Output) (ds : List LeaseDate) (d : LeaseDate) → Has d (dates_out v c os ds) → Has d ds ⊎ ((s : ServerId) × (end : Stamp) × Has (leased s end) os × (d ≡ lease_date v c s end))
noted_date v c [] ds d h = inl h
noted_date v c (o ∷ os) ds d h = go (noted_date v c os (dates_one v c o ds) d h)
  where
    put : (s : ServerId) (end : Stamp) → Has d (filter (λ e. not (is_date_of (lease_date v c s end) e)) ds) ⊎ Has d (lease_date v c s end ∷ []) → leased s end ≡ o → Has d ds ⊎ ((s : ServerId) × (end : Stamp) × Has (leased s end) (o ∷ os) × (d ≡ lease_date v c s end))
    put s end (inl i) e = inl (has_filter _ ds d i).0
    put s end (inr (inl i)) e = inr (s, end, inl e, i)
    put s end (inr (inr i)) e = absurd i

    note : (n : Note) → outputs.Note n ≡ o → Has d (dates_one v c (outputs.Note n) ds) → Has d ds ⊎ ((s : ServerId) × (end : Stamp) × Has (leased s end) (o ∷ os) × (d ≡ lease_date v c s end))
    note (notes.Leased s end) e i = put s end (has_append (filter (λ e. not (is_date_of (lease_date v c s end) e)) ds) (lease_date v c s end ∷ []) d i) e
    note n e i = inl i

    one : (x : Output) → x ≡ o → Has d (dates_one v c x ds) → Has d ds ⊎ ((s : ServerId) × (end : Stamp) × Has (leased s end) (o ∷ os) × (d ≡ lease_date v c s end))
    one (outputs.Note n) e i = note n e i
    one x e i = inl i

    go : Has d (dates_one v c o ds) ⊎ ((s : ServerId) × (end : Stamp) × Has (leased s end) os × (d ≡ lease_date v c s end)) → Has d ds ⊎ ((s : ServerId) × (end : Stamp) × Has (leased s end) (o ∷ os) × (d ≡ lease_date v c s end))
    go (inl i) = one o refl i
    go (inr (s, end, i, e)) = inr (s, end, inr i, e)

-- more messages
pub replied_more : (lease : ℕ) (ms ns : List SentMessage) → ((m : SentMessage) → Has m ms → (n : SentMessage) × Has n ns × (n.message ≡ m.message)) → (d : LeaseDate) → Replied lease ms d → Replied lease ns d
replied_more lease ms ns f d r = go (f r.by r.among)
  where
    go : (n : SentMessage) × Has n ns × (n.message ≡ r.by.message) → Replied lease ns d
    go (n, h, e) =
        record {
          by = n;
          among = h;
          from = ap (λ (m : Message). m.header.from) e ∙ r.from;
          to = ap (λ (m : Message). m.header.to) e ∙ r.to;
          of_life = ap (λ (m : Message). m.header.life) e ∙ r.of_life;
          of_epoch = ap (λ (m : Message). m.header.epoch) e ∙ r.of_epoch;
          renews = ap (λ (m : Message). renews_lease m.header.number m.body) e ∙ r.renews;
          ends = r.ends ∙ ap (λ (m : Message). m.header.stamp + lease) (sym e);
        }

-- A step of a client: its new dates are of the message that came.
module _ (c : ClientId) (s : ClientState) (now : Stamp) (input : ClientInput) (v : World) (new : WorldClient) (ms : List SentMessage)
    (id : s.id ≡ c) (once : Once (map server_number s.associations)) (there : site_of v c ≡ Some new) (is : new.node.state ≡ (cl.client_step s now input).state)
    (comes : (m : Message) → input ≡ inputs.Control m → (n : SentMessage) × Has n ms × (n.message ≡ m)) where
  abbrev u : ClientTurn
  u = cl.client_step s now input

  told : AllNoted s.config (ends_before s) (Brings s.config (ends_before s) c input) Nothing u []
  told = step_all_noted c s now input id once

  end_of_bytes : (xs : List Association) → xs ++ [] ≡ xs
  end_of_bytes [] = refl
  end_of_bytes (x ∷ xs) = ap (λ z. x ∷ z) (end_of_bytes xs)

  association_is : (r : ServerId) (o : Option Association) → find (is_at r) u.state.associations ≡ o → association_of v c r ≡ o
  association_is r o e = ap (association_at r) there ∙ ap (λ (z : ClientState). find (is_at r) z.associations) is ∙ e

  life_is : (r : ServerId) (a : Association) → find (is_at r) u.state.associations ≡ Some a → present_life v c r ≡ a.life
  life_is r a e = ap (λ z. ev.life_of_site r z) there ∙ ap (λ (z : ClientState). world.life_at (find (is_at r) z.associations)) is ∙ ap world.life_at e

  by_message : (m : Message) (r : ServerId) (a : Association) (end : Stamp) → input ≡ inputs.Control m → find (is_at r) u.state.associations ≡ Some a → a.server ≡ r → ToldBy s.config (ends_before s) c m a.server a.life (epoch_at_session a.session) end → Replied s.config.lease ms (lease_date v c r end)
  by_message m r a end e f q t = go (comes m e)
    where
      go : (n : SentMessage) × Has n ms × (n.message ≡ m) → Replied s.config.lease ms (lease_date v c r end)
      go (n, h, z) =
          record {
            by = n;
            among = h;
            from = ap (λ (y : Message). y.header.from) z ∙ t.from ∙ ap server_node q;
            to = ap (λ (y : Message). y.header.to) z ∙ t.to;
            of_life = ap (λ (y : Message). y.header.life) z ∙ t.of_life ∙ ap (λ (l : Life). l.0) (sym (life_is r a f));
            of_epoch = ap (λ (y : Message). y.header.epoch) z ∙ t.of_epoch ∙ ap (λ o. (epoch_at o).0) (sym (association_is r (Some a) f));
            renews = ap (λ (y : Message). renews_lease y.header.number y.body) z ∙ t.renews;
            ends = ap (λ (y : Stamp). y.0) (sym t.ends) ∙ ap (λ (y : Message). y.header.stamp + s.config.lease) (sym z);
          }

  brought : (i : ClientInput) → input ≡ i → (r : ServerId) (a : Association) (end : Stamp) → find (is_at r) u.state.associations ≡ Some a → a.server ≡ r → Brings s.config (ends_before s) c i a.server a.life (epoch_at_session a.session) end → Replied s.config.lease ms (lease_date v c r end)
  brought (inputs.Control m) e r a end f q t = by_message m r a end e f q t
  brought inputs.Tick e r a end f q t = absurd t
  brought (inputs.App op ask) e r a end f q t = absurd t
  brought (inputs.Done number result) e r a end f q t = absurd t

  pub stepped_replied : (ds : List LeaseDate) → DatesReplied s.config.lease ms ds → DatesReplied s.config.lease ms (dates_out v c u.out ds)
  stepped_replied ds h d i = go (noted_date v c u.out ds d i)
    where
      at : (r : ServerId) (end : Stamp) → Has (leased r end) u.out → (o : Option Association) → find (is_at r) u.state.associations ≡ o → Replied s.config.lease ms (lease_date v c r end)
      at r end j None f = absurd (told.none r (λ a k. none_has (is_at r) u.state.associations f a (subst (Has a) (end_of_bytes u.state.associations) k)) end j)
      at r end j (Some a) f =
          let z = found_at (is_at r) u.state.associations a f in
          let q : a.server ≡ r = ap (λ n. record { 0 = n }) (eqb-true a.server.0 r.0 z.0) in
          brought input refl r a end f q (told.behind a z.1 end (subst (λ (y : ServerId). Has (leased y end) u.out) (sym q) j))

      go : Has d ds ⊎ ((r : ServerId) × (end : Stamp) × Has (leased r end) u.out × (d ≡ lease_date v c r end)) → Replied s.config.lease ms d
      go (inl j) = h d j
      go (inr (r, end, j, e)) = subst (Replied s.config.lease ms) (sym e) (at r end j (find (is_at r) u.state.associations) refl)
