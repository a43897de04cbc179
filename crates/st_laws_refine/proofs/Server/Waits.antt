-- Grace waits: outside grace every lease of an earlier epoch has ended.
use Rattle.st_lemmas.proofs.Words
use Words.{◌≡◌, ℕ, ◌<◌, ◌≤◌, Bool, true, false, not, ◌&&◌, ◌||◌, ◌==◌, refl, ap, ◌∙◌, subst, arith, nat_le, nat_lt, Some, le-leb, eqb-true, ltb-true, ClientId}
use Words.nodes
use Words.Keys.{client}
use Words.Grace as grace
use Words.Server.{ServerNode}
use Words.World.{site_of, clock_of, all_clients, server}
use Words.History.{Traced, LeaseDate}
use Words.Safety.{is_waited_for, client_waited_for, is_out_of_grace, all_waited_for, node_waited, has_waited}
use Words.Lists.{Has}
use Words.Tables.{and_true, not_true, all_pass}
use Rattle.st_protocol.specs.Assoc.{Config, ConfigOk}
use Rattle.st_protocol.proofs.World.{invariant}
use Rattle.st_laws_refine.specs.Views.Halves.{Ghost}
use Rattle.st_laws_refine.specs.Server.Pair.{DatesShown, DatesKnown}
use Rattle.st_laws_refine.specs.Server.Invariants.{pairs, Stands}
use Rattle.st_laws_refine.proofs.Server.Late.{clock_in}

module _ (k : Config) (s : ℕ) (ended : ℕ → ℕ → ℕ) (t : Traced) (node : ServerNode) (G : ℕ → Ghost) where
  -- a lease of an earlier epoch
  one_waits : ConfigOk k → Stands k s ended t.world node G → DatesKnown t.world t.history.dates → ((c : ℕ) → DatesShown k.lease c s t.history.dates (G c).net) →
      node.running ≡ true → grace.is_on node.state.grace (clock_of t.world (nodes.Server (server s))) ≡ false → (c : ClientId) (d : LeaseDate) → Has d t.history.dates → d.client.0 ≡ c.0 → d.server.0 ≡ s →
      d.epoch.0 < node.state.stable.epoch.0 → d.end.0 ≤ (clock_of t.world (nodes.Client c)).0
  one_waits ok st known shown runs off c d i e f lt =
      let z = shown c.0 d i e f in
      let p = (invariant k (pairs s ended t.world node G) ok st.reached c.0).timing_.past runs off _ z.is z.dates lt in
      let b = clock_in t.world c.0 s (ended c.0) (known d i).0 (subst (λ n. site_of t.world (client n) ≡ Some (known d i).0) e (known d i).1) in
      let y = z.ends in omega arith

  client_waits : ConfigOk k → Stands k s ended t.world node G → DatesKnown t.world t.history.dates → ((c : ℕ) → DatesShown k.lease c s t.history.dates (G c).net) →
      node.running ≡ true → grace.is_on node.state.grace (clock_of t.world (nodes.Server (server s))) ≡ false → (c : ClientId) → client_waited_for t (server s) node.state.stable.epoch c ≡ true
  client_waits ok st known shown runs off c =
      all_pass (is_waited_for (server s) c node.state.stable.epoch (clock_of t.world (nodes.Client c))) t.history.dates
      (λ d i. by (d.server.0 == s) (d.client.0 == c.0) (nat_lt d.epoch.0 node.state.stable.epoch.0) d refl refl refl (one_waits ok st known shown runs off c d i))
    where
      by : (a b e : Bool) (d : LeaseDate) → (d.server.0 == s) ≡ a → (d.client.0 == c.0) ≡ b → nat_lt d.epoch.0 node.state.stable.epoch.0 ≡ e →
          (d.client.0 ≡ c.0 → d.server.0 ≡ s → d.epoch.0 < node.state.stable.epoch.0 → d.end.0 ≤ (clock_of t.world (nodes.Client c)).0) → (not (a && (b && e)) || nat_le d.end.0 (clock_of t.world (nodes.Client c)).0) ≡ true
      by true true true d x y z h = le-leb d.end.0 (clock_of t.world (nodes.Client c)).0 (h (eqb-true _ _ y) (eqb-true _ _ x) (ltb-true _ _ z))
      by true true false d x y z h = refl
      by true false e d x y z h = refl
      by false b e d x y z h = refl

  pub server_waits : ConfigOk k → Stands k s ended t.world node G → DatesKnown t.world t.history.dates → ((c : ℕ) → DatesShown k.lease c s t.history.dates (G c).net) → has_waited t (server s) ≡ true
  server_waits ok st known shown = ap (node_waited t (server s)) (st.served 0).found ∙ go (is_out_of_grace (clock_of t.world (nodes.Server (server s))) node) refl
    where
      go : (b : Bool) → is_out_of_grace (clock_of t.world (nodes.Server (server s))) node ≡ b → (not b || all_waited_for t (server s) node) ≡ true
      go false e = refl
      go true e = let z = and_true node.running _ e in all_pass (client_waited_for t (server s) node.state.stable.epoch) (all_clients t.world) (λ c i. client_waits ok st known shown z.0 (not_true _ z.1) c)
