-- The server of each association of a client is one of the world's.
use Rattle.st_lemmas.proofs.Words
use Words.{◌≡◌, ◌≢◌, ℕ, ◌≤◌, ◌⊎◌, List, Some, sym, ap, ◌∙◌, subst, inl, inr, arith, length, ClientId, ClientInput}
use Words.Client as cl
use Words.ClientState.{Association}
use Words.Extents.{numbers}
use Words.World.{World, WorldClient, fresh_site, fresh_world, node_at_start, numbered, site_of, with_numbered}
use Words.Lists.{Has}
use Words.Lookups.{some_is}
use Words.Numbers.{numbered_below, numbered_own, numbered_other}
use Words.Tables.{has_map, same_or_not}
use Words.Lengths.{length_map, numbers_length}
use Words.Members.{numbers_between}
use Rattle.st_base.specs.declared.config.Config as base
use Rattle.st_laws_refine.specs.Client.World.{site_left, world_left}
use Rattle.st_laws_refine.proofs.Client.Sim.{world_is}
use Rattle.st_laws_steps.specs.Lives.Lives.{LivesHold}
use Rattle.st_laws_pages.proofs.Lives.LifeSteps.{steps_so}
use Rattle.st_laws_steps.proofs.Client.Stepping.{pairs_has}
use Rattle.st_laws_pages.proofs.Lives.Fresh.{fresh_is}

-- at each association of these clients
abbrev pub Known : ℕ → List WorldClient → Type 0
Known count xs = (c : ℕ) (site : WorldClient) → numbered xs c ≡ Some site → (a : Association) → Has a site.node.state.associations → (1 ≤ a.server.0) × (a.server.0 ≤ count)

-- another client is put in its place
placed : (count : ℕ) (xs : List WorldClient) (c : ℕ) (old new : WorldClient) → numbered xs c ≡ Some old → Known count xs → ((a : Association) → Has a new.node.state.associations → (1 ≤ a.server.0) × (a.server.0 ≤ count)) → Known count (with_numbered c new xs)
placed count xs c old new there k f d site e = go (same_or_not d c)
  where
    go : (d ≡ c) ⊎ (d ≢ c) → (a : Association) → Has a site.node.state.associations → (1 ≤ a.server.0) × (a.server.0 ≤ count)
    go (inl q) = subst (λ (x : WorldClient). (a : Association) → Has a x.node.state.associations → (1 ≤ a.server.0) × (a.server.0 ≤ count)) (some_is (sym (numbered_own xs c new old there) ∙ ap (numbered (with_numbered c new xs)) (sym q) ∙ e)) f
    go (inr n) = k d site (sym (numbered_other xs c d new (numbered_below xs c old there).0 n) ∙ e)

-- a client's step
pub step_known : (count : ℕ) (w : World) (c : ClientId) (old site : WorldClient) (input : ClientInput) → site_of w c ≡ Some old → old.node ≡ site.node → LivesHold w → Known count w.clients → Known count (world_left w c site input).clients
step_known count w c old site input there same h k =
    subst (Known count) (sym (world_is w c site input).clients)
    (placed count w.clients c.0 old (site_left w c site input) there k
    (pairs_has _ (λ a. (1 ≤ a.server.0) × (a.server.0 ≤ count)) (λ a. (1 ≤ a.server.0) × (a.server.0 ≤ count)) (λ a b r. subst (λ v. (1 ≤ v.0) × (v.0 ≤ count)) r.server) old.node.state.associations _ (steps_so w c old site input there same h).pairs (k c.0 old there)))

-- a client that crashes, and one that starts
pub crash_known : (count : ℕ) (w : World) (c : ClientId) (site new : WorldClient) → site_of w c ≡ Some site → new.node ≡ cl.crash_node site.node → Known count w.clients → Known count (with_numbered c.0 new w.clients)
unfolding cl.crash
crash_known count w c site new there is k =
    placed count w.clients c.0 site new there k
    (λ a h. let m = has_map cl.crashed_association site.node.state.associations a (subst (λ (n : cl.ClientNode). Has a n.state.associations) is h) in
    subst (λ (x : Association). (1 ≤ x.server.0) × (x.server.0 ≤ count)) (sym m.2) (k c.0 site there m.0 m.1))

pub start_known : (count : ℕ) (w : World) (c : ClientId) (site new : WorldClient) → site_of w c ≡ Some site → new.node ≡ cl.start_node site.node → Known count w.clients → Known count (with_numbered c.0 new w.clients)
unfolding cl.start
start_known count w c site new there is k =
    placed count w.clients c.0 site new there k
    (λ a h. let m = has_map cl.started_association site.node.state.associations a (subst (λ (n : cl.ClientNode). Has a n.state.associations) is h) in
    subst (λ (x : Association). (1 ≤ x.server.0) × (x.server.0 ≤ count)) (sym m.2) (k c.0 site there m.0 m.1))

-- at the start
pub fresh_known : (kb : base.Config) (clients servers disks blocks form : ℕ) → Known (length (fresh_world kb clients servers disks blocks form).servers) (fresh_world kb clients servers disks blocks form).clients
unfolding fresh_world cl.fresh_client
fresh_known kb clients servers disks blocks form c site e a h =
    let m = has_map cl.fresh_association (numbers 1 servers) a (subst (λ (s : WorldClient). Has a s.node.state.associations) (fresh_is (fresh_site kb servers) clients c site e) h) in
    let n = numbers_between 1 servers m.0 m.1 in
    let l = n.0 in
    let u = n.1 in
    let s = ap (λ (x : Association). x.server.0) m.2 in
    let count = length_map (node_at_start kb servers disks blocks) (numbers 1 servers) ∙ numbers_length 1 servers in
    (omega (arith, l, s), omega (arith, u, s, count))
