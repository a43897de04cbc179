-- A step of a client of the third form in a world: what becomes of each of its associations, and why it sent each message.
use Rattle.st_lemmas.proofs.Words
use Words.{◌≡◌, ◌⊎◌, true, List, [], ◌∷◌, map, Some, sym, ap, ◌∙◌, subst, inl, inr, ClientId, ClientInput, Config, Event, Message, ServerId, Stamp}
use Words.nodes
use Words.ClientState.{Association}
use Words.Dating as dating
use Words.Events as ev
use Words.Lists.{Has}
use Words.Numbers.{numbered_own}
use Words.Tables.{has_map_in}
use Words.Truth.{not_both}
use Words.World.{clock_of, numbered, site_of}
use Rattle.st_laws_steps.specs.Lives.Lives.{Once, Pairwise, server_number}
use Rattle.st_laws_healthy.proofs.Taking.{IsSeen}
use Rattle.st_laws_third.specs.Living.{ClientLivesOn, heard_in}
use Rattle.st_laws_third_leases.proofs.Signing.{IsSigned, signed}
use Rattle.st_laws_third.proofs.EventWalk.{Client_step}
use Rattle.st_laws_third.proofs.Living.{clients_live_on}
use Rattle.st_third.specs.Events as every
use Rattle.st_third.specs.Events.{ThirdWorldTurn}
use Rattle.st_third.specs.State.{ThirdClientTurn}
use Rattle.st_third.specs.World.{ThirdWorld}
use Rattle.st_laws_third_leases.proofs.Happening.{ClientSteps}
use Rattle.st_laws_third_leases.proofs.Idle.{Sent}
use Rattle.st_laws_third_leases.proofs.Nodes.{Known, config_at, fits_at, id_at, paired_at, told_at}
use Rattle.st_laws_third_leases.proofs.Placing.{Resting}
use Rattle.st_laws_third_leases.proofs.Requesting.{IsSpoken}
use Rattle.st_laws_third_leases.proofs.Stepping.{Stepped, ThirdWalk, plain_input, seen_plain, steps as step_walks}

-- associations with one server are the same
once_same : (al : List Association) → Once (map server_number al) → (a b : Association) → Has a al → Has b al → a.server.0 ≡ b.server.0 → a ≡ b
once_same [] o a b h i e = absurd h
once_same (x ∷ xs) o a b (inl p) (inl q) e = p ∙ sym q
once_same (x ∷ xs) o a b (inl p) (inr j) e = absurd (o.first (server_number b) (has_map_in server_number xs b j) (ap server_number (sym p) ∙ e))
once_same (x ∷ xs) o a b (inr j) (inl q) e = absurd (o.first (server_number a) (has_map_in server_number xs a j) (ap server_number (sym q) ∙ sym e))
once_same (x ∷ xs) o a b (inr i) (inr j) e = once_same xs o.rest a b i j e

module _ {k : Config} (w : ThirdWorld) (kn : Known k w) (e : Event) (sc : ThirdWorldTurn) (s : ServerId) (c : ClientId) (y : ClientSteps w e sc s c)
    (resting : (a : Association) → Has a y.site.node.state.associations → Resting a) (kn2 : Known k sc.third) where
  abbrev pub now : Stamp
  now = clock_of w.world (nodes.Client c)

  abbrev pub i : ClientInput
  i = plain_input y.input

  abbrev pub turn : ThirdClientTurn
  turn = Client_step w c y.site y.beside y.input

  abbrev pub Said : Message → Type 0
  Said = Sent turn.out

  abbrev pub al : List Association
  al = y.site.node.state.associations

  abbrev pub bs : List Association
  bs = turn.client.plain.associations

  st : Stepped w.limits (every.third_client y.site y.beside) now y.input (paired_at w kn c y.old y.site y.beside y.there y.same y.is)
      (fits_at w kn c y.old y.site y.there y.same) (λ a h. (resting a h).1) turn
  st =
      step_walks w.limits (every.third_client y.site y.beside) now y.input (paired_at w kn c y.old y.site y.beside y.there y.same y.is)
      (fits_at w kn c y.old y.site y.there y.same) (λ a h. (resting a h).1) (told_at w kn e c y.old y.site y.there y.same y.input y.brings)

  pub pairs : Pairwise (ThirdWalk k y.site.node.state.id now i Said) al bs
  pairs = subst (λ kb. Pairwise (ThirdWalk kb y.site.node.state.id now i Said) al bs) (config_at w kn c y.old y.site y.there y.same) st.pairs

  pub sends : (m : Message) → Said m →
      (IsSeen m.body × (m.header.number ≡ 0)) ⊎ ((b : Association) × Has b bs × IsSpoken y.site.node.state.id now b m)
  sends m h = st.sends m h

  lives : ClientLivesOn (heard_in y.input) (every.third_client y.site y.beside) turn.client turn.out
  lives =
      clients_live_on w.limits (every.third_client y.site y.beside) now y.input (paired_at w kn c y.old y.site y.beside y.there y.same y.is)
      (fits_at w kn c y.old y.site y.there y.same)

  -- each message is of an association
  pub of : (m : Message) → Said m → (b : Association) × (Has b bs × IsSigned y.site.node.state.id b m)
  of m h = subst (λ (z : ClientId). (b : Association) × (Has b bs × IsSigned z b m)) lives.id (signed _ _ bs m (lives.sent m h))

  pub id_is : y.site.node.state.id.0 ≡ c.0
  id_is = id_at w kn c y.old y.site y.there y.same

  -- a request has the moment of the step
  pub stamped : (m : Message) → Said m → dating.is_request m.body ≡ true → m.header.stamp ≡ now.0
  stamped m h r = go (st.sends m h)
    where
      go : (IsSeen m.body × (m.header.number ≡ 0)) ⊎ ((b : Association) × Has b bs × IsSpoken y.site.node.state.id now b m) → m.header.stamp ≡ now.0
      go (inl f) = absurd (not_both (dating.is_request m.body) r (seen_plain m.body f.0))
      go (inr (b, l, f)) = f.stamp

  pub here : site_of sc.third.world c ≡ Some (ev.at_node (record y.site.node { state = turn.client.plain }) y.site)
  here = ap (λ xs. numbered xs c.0) y.took.clients ∙ numbered_own w.world.clients c.0 _ y.old y.there

  pub once : (a b : Association) → Has a bs → Has b bs → a.server.0 ≡ b.server.0 → a ≡ b
  once = once_same bs (kn2.clients c.0 _ here).once
