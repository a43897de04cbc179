-- Both sides of each association of one server, in the world.
use Rattle.st_lemmas.proofs.Words
use Words.{◌≡◌, ℕ, ◌+◌, Bool, true, false, List, [], ◌∷◌, ◌++◌, ◌==◌, refl, sym, ap, ◌∙◌, subst, inl, inr}
use Words.{find, Some, if◌then◌else◌, eq-eqb, ne_eqb, ServerId, Output, SentMessage}
use Words.nodes
use Words.outputs
use Words.Keys.{client, server_node}
use Words.ClientState.{Association, ClientState, is_at}
use Words.Client.{association_with}
use Words.World.{World, WorldClient, site_of, clock_of, server}
use Words.Lists.{Has}
use Rattle.st_protocol.specs.Assoc.{Msg}
use Rattle.st_laws_refine.specs.Views.Messages.{Received}
use Rattle.st_laws_refine.specs.Views.Halves.{client_of}
use Rattle.st_laws_refine.specs.Server.Pair.{client_view, client_at_site, client_in}
use Rattle.st_laws_refine.specs.Client.Invariants.{Said}
use Rattle.st_laws_refine.specs.Client.Law.{Apart, Place}
use Rattle.st_laws_refine.specs.Client.World.{sent}

-- the association is found under its server
apart_not : (s : ℕ) (xs : List Association) (a : Association) (ys : List Association) → Apart (server s) xs → a.server ≡ server s → find (is_at (server s)) (xs ++ a ∷ ys) ≡ Some a
apart_not s [] a ys p e = go (a.server.0 == s) (eq-eqb _ _ (ap (λ (v : ServerId). v.0) e))
  where
    go : (b : Bool) → b ≡ true → (if b then Some a else find (is_at (server s)) ys) ≡ Some a
    go true f = refl
    go false f = cc
apart_not s (x ∷ xs) a ys p e = go (x.server.0 == s) (ne_eqb _ _ (λ q. p.one (ap (λ n. 32768 + n) (sym q)))) (apart_not s xs a ys p.rest e)
  where
    go : (b : Bool) → b ≡ false → find (is_at (server s)) (xs ++ a ∷ ys) ≡ Some a → (if b then Some x else find (is_at (server s)) (xs ++ a ∷ ys)) ≡ Some a
    go true f g = cc
    go false f g = g

pub found_at_place : (s : ℕ) (c : ClientState) (a : Association) → Place (server s) c.associations a → association_with c (server s) ≡ Some a
found_at_place s c a p = ap (find (is_at (server s))) p.is ∙ apart_not s p.before a p.after p.apart_before p.here

-- any other member of the list is of another server
pub only_here : (s : ℕ) (xs : List Association) (a : Association) → Place (server s) xs a → (x : Association) → Has x xs → server_node x.server ≡ server_node (server s) → x ≡ a
only_here s xs a p x h e = go p.before p.apart_before (subst (Has x) p.is h)
  where
    none : (ys : List Association) → Apart (server s) ys → Has x ys → ⊥
    none [] q h = elim h [ ]
    none (y ∷ ys) q (inl f) = q.one (sym e ∙ ap (λ (v : Association). server_node v.server) f)
    none (y ∷ ys) q (inr h) = none ys q.rest h

    go : (ys : List Association) → Apart (server s) ys → Has x (ys ++ a ∷ p.after) → x ≡ a
    go [] q (inl f) = f
    go [] q (inr h) = absurd (none p.after p.apart_after h)
    go (y ∷ ys) q (inl f) = absurd (q.one (sym e ∙ ap (λ (v : Association). server_node v.server) f))
    go (y ∷ ys) q (inr h) = go ys q.rest h

-- the client's half of the pair, if the client runs
pub own_view : (w : World) (c s : ℕ) (e : ℕ → ℕ) (site : WorldClient) (a : Association) → site_of w (client c) ≡ Some site → site.node.running ≡ true → Place (server s) site.node.state.associations a →
    client_in w c s e ≡ client_of e (clock_of w (nodes.Client (client c))).0 a
own_view w c s e site a there runs p =
    ap (client_at_site w c s e) there ∙ ap (λ b. client_view b e (clock_of w (nodes.Client (client c))) (association_with site.node.state (server s))) runs
    ∙ ap (client_view true e (clock_of w (nodes.Client (client c)))) (found_at_place s site.node.state a p)

-- a message of a client is its own, and a server can receive it
pub said_has : (id : ℕ) (sv : ServerId) (os : List Output) (N : List Msg) (m : SentMessage) → Said id sv os N → Has m (sent os) → (m.message.header.from ≡ id) × (m.message.header.to ≡ server_node sv → Received m.message.header m.message.body N)
said_has id sv [] N m q h = elim h [ ]
said_has id sv (outputs.Send n ∷ os) N m q (inl e) = (ap (λ (x : SentMessage). x.message.header.from) e ∙ q.from, λ f. subst (λ (x : SentMessage). Received x.message.header x.message.body N) (sym e) (q.one (sym (ap (λ (x : SentMessage). x.message.header.to) e) ∙ f)))
said_has id sv (outputs.Send n ∷ os) N m q (inr h) = said_has id sv os N m q.rest h
said_has id sv (outputs.Submit c a w ∷ os) N m q h = said_has id sv os N m q h
said_has id sv (outputs.Answer o a ∷ os) N m q h = said_has id sv os N m q h
said_has id sv (outputs.Note n ∷ os) N m q h = said_has id sv os N m q h
