-- In every run of the third form, of no client more operations and leaves are pending than may be.
use Rattle.st_lemmas.proofs.Words
use Words.{◌≡◌, ◌≤◌, ◌⊎◌, ◌≢◌, ℕ, true, List, [], length, option_map, Option, Some, None, refl, sym, ap, ◌∙◌, inl, inr, arith, le-leb}
use Words.{ClientId, Config, Stamp}
use Words.nodes
use Words.Client as plain
use Words.ClientState.{ClientState}
use Words.Lengths.{numbered_there}
use Words.Lists.{Has}
use Words.Lookups.{some_is}
use Words.Numbers.{numbered_has}
use Words.Tables.{all_pass, has_map, same_or_not}
use Words.World.{World, WorldClient, all_clients, clock_of, fresh_site, fresh_world, numbered, site_of}
use Rattle.st_lemmas.proofs.Members.{numbers_between}
use Rattle.st_rules.specs.Extents.{numbers}
use Rattle.st_third.specs.declared.event.ThirdEvent.{ThirdEvent}
use Rattle.st_third.specs.declared.limits.Limits.{Limits}
use Rattle.st_third.specs.Client.{client_step}
use Rattle.st_third.specs.Events as every
use Rattle.st_third.specs.Events.{third_counted}
use Rattle.st_third.specs.Limits.{limited_client, limited_site, most_clients, with_limits}
use Rattle.st_third.specs.Promises.{leaves_at, operations_at, pending}
use Rattle.st_third.specs.State.{ClientBeside, ThirdClient, fresh_beside_client}
use Rattle.st_third.specs.Steps as steps
use Rattle.st_third.specs.Steps.{ThirdStep, ThirdTraced}
use Rattle.st_third.specs.World as worlds
use Rattle.st_third.specs.World.{ThirdWorld, beside_of, third_world}
use Rattle.st_laws_third.proofs.DemandsSeen.{people_first, within_most}
use Rattle.st_laws_third.proofs.Moves.{Becomes, Changes, Crashed, Moved, Rests, Started, Stepped, elsewhere, moves}
use Rattle.st_laws_third.proofs.Sound.{Sound, numbered_map, sound_after, sound_first}
use Rattle.st_laws_leaving.specs.Quiet.{Standing}
use Rattle.st_laws_leaving.proofs.StandingRuns.{standing_first, stands_throughout}
use Rattle.st_laws_limits.specs.Pending.{EveryClientHasFewPending, PendingAreFew, has_few_pending}
use Rattle.st_laws_limits.proofs.PendingSteps.{steps_wait, waiting}

-- of each client
abbrev pub AllPending : ThirdWorld → Type 0
AllPending w =
    (n : ℕ) (site : WorldClient) (b : ClientBeside) → numbered w.world.clients n ≡ Some site → numbered w.besides n ≡ Some b →
    waiting (every.third_client site b) ≤ w.limits.operations

module _ (w v : ThirdWorld) (so : Sound w) (st : Standing w.world) (f : AllPending w) where
  -- a client that begins has none pending
  begun : (x : ClientState) (new : WorldClient) (d : ClientBeside) → length x.operations ≡ 0 → new.node.state ≡ limited_client w.limits x →
      d ≡ fresh_beside_client x → waiting (every.third_client new d) ≤ w.limits.operations
  unfolding fresh_beside_client
  begun x new d z e q =
      let a : length new.node.state.operations ≡ length x.operations = ap (λ (s : ClientState). length s.operations) e in
      let b : length d.leaves ≡ 0 = ap (λ (s : ClientBeside). length s.leaves) q in omega (arith, a, b, z)

  becomes : (c : ClientId) (old new : WorldClient) (d : ClientBeside) → site_of w.world c ≡ Some old → Becomes w v c old new d →
      waiting (every.third_client new d) ≤ w.limits.operations
  unfolding plain.crash plain.start
  becomes c old new d there (Stepped b input q t u z) =
      let now : Stamp = clock_of w.world (nodes.Client c) in
      let x : ThirdClient = every.third_client old b in
      let l = steps_wait w.limits now x input (so.fits.pairs c.0 old b there q) (st.apart c.0 old there) (f c.0 old b there q) in
      let y : length new.node.state.operations ≡ length (client_step w.limits x now input).client.plain.operations = ap (λ (s : ClientState). length s.operations) u in
      let k : length d.leaves ≡ length (client_step w.limits x now input).client.beside.leaves = ap (λ (s : ClientBeside). length s.leaves) z in
      omega (arith, l, y, k)
  becomes c old new d there (Crashed u z) = begun (plain.crash old.node.state) new d refl u z
  becomes c old new d there (Started u z) = begun (plain.start old.node.state) new d refl u z

  pub pending_after : Moved w v → AllPending v
  pending_after (Rests p k q) n site b e i =
      let l = f n site b (sym (ap (λ xs. numbered xs n) p) ∙ e) (sym (ap (λ xs. numbered xs n) q) ∙ i) in
      let z : v.limits.operations ≡ w.limits.operations = ap (λ (m : Limits). m.operations) k.limits in omega (arith, l, z)
  pending_after (Changes c old new d there k own others x y b) n site z e i = at (same_or_not n c.0)
    where
      limit : v.limits.operations ≡ w.limits.operations
      limit = ap (λ (m : Limits). m.operations) k.limits

      before : (g : ClientBeside) × (numbered w.besides c.0 ≡ Some g)
      before = so.fits.there c.0 old there

      at : (n ≡ c.0) ⊎ (n ≢ c.0) → waiting (every.third_client site z) ≤ v.limits.operations
      at (inl j) =
          let s : new ≡ site = some_is (sym own ∙ sym (ap (numbered v.world.clients) j) ∙ e) in
          let t : d ≡ z = some_is (sym (x before.0 before.1) ∙ sym (ap (numbered v.besides) j) ∙ i) in
          let l = becomes c old new d there b in
          let o : length new.node.state.operations ≡ length site.node.state.operations = ap (λ (g : WorldClient). length g.node.state.operations) s in
          let p : length d.leaves ≡ length z.leaves = ap (λ (g : ClientBeside). length g.leaves) t in
          let q = limit in omega (arith, l, o, p, q)
      at (inr ne) = let l = f n site z (sym (others n ne) ∙ e) (sym (y n ne) ∙ i) in let q = limit in omega (arith, l, q)

-- after an event, of one client
one_few : (w : ThirdWorld) → Sound w → AllPending w → (c : ClientId) → Has c (all_clients w.world) → has_few_pending w c ≡ true
one_few w so f c h =
    let site = there in
    let b = so.fits.there c.0 site.0 site.1 in
    let l = f c.0 site.0 b.0 site.1 b.1 in
    let x : length (operations_at (site_of w.world c)) ≡ length site.0.node.state.operations = ap (λ o. length (operations_at o)) site.1 in
    let y : length (leaves_at (beside_of w c)) ≡ length b.0.leaves = ap (λ o. length (leaves_at o)) b.1 in
    le-leb (pending w c) w.limits.operations (omega (arith, l, x, y))
  where
    there : (site : WorldClient) × (site_of w.world c ≡ Some site)
    there =
        let z = has_map Words.Keys.client (numbers 1 (length w.world.clients)) c h in
        let y = numbers_between 1 (length w.world.clients) z.0 z.1 in
        let e : c.0 ≡ z.0 = ap (λ (i : ClientId). i.0) z.2 in
        numbered_there w.world.clients c.0 (let a = y.0 in omega (arith, e, a)) (let a = y.1 in omega (arith, e, a))

pending_first : (k : Config) (m : Limits) (clients servers disks blocks : ℕ) → AllPending (third_world k m clients servers disks blocks 3)
unfolding third_world fresh_world with_limits plain.fresh_client fresh_beside_client
pending_first k m clients servers disks blocks n site b e i = go (numbered v.clients n) refl (sym (numbered_map (limited_site m) v.clients n) ∙ e)
  where
    v : World
    v = fresh_world k clients servers disks blocks 3

    none : (x : WorldClient) → numbered v.clients n ≡ Some x → length x.node.state.operations ≡ 0
    none x q =
        let h = has_map (fresh_site k servers) (numbers 1 clients) x (numbered_has v.clients n x q) in
        ap (λ (z : WorldClient). length z.node.state.operations) h.2

    go : (o : Option WorldClient) → numbered v.clients n ≡ o → option_map (limited_site m) o ≡ Some site → waiting (every.third_client site b) ≤ m.operations
    go None q r = cc r
    go (Some x) q r =
        let a = none x q in
        let s : length x.node.state.operations ≡ length site.node.state.operations =
        ap (λ (z : WorldClient). length z.node.state.operations) (some_is r) in
        let t : length b.leaves ≡ 0 =
        ap (λ (z : ClientBeside). length z.leaves) (some_is (sym i ∙ numbered_map worlds.beside_site v.clients n ∙ ap (option_map worlds.beside_site) q)) in
        omega (arith, a, s, t)

-- each event
pub pending_on : (t : ThirdTraced) (e : ThirdEvent) → Sound t.third → Standing t.third.world → AllPending t.third →
    AllPending (every.happens (third_counted t.third) e).third
pending_on t e so st f =
    pending_after t.third _ so st f (elsewhere t.third (third_counted t.third) _ refl refl (moves (third_counted t.third) e so.form))

abbrev Also : List ThirdStep → ThirdTraced → Type 0
Also past t = AllPending t.third

pub every_client_has_few_pending : EveryClientHasFewPending
unfolding most_clients
every_client_has_few_pending k m clients servers disks blocks es head =
    stands_throughout Also PendingAreFew
    (λ past t e s q. let v : ThirdWorld = (every.happens (third_counted t.third) e).third in
    let f : AllPending v = pending_on t e s.sound s.standing s.also in
    let so : Sound v = sound_after t.third v s.sound (elsewhere t.third (third_counted t.third) v refl refl (moves (third_counted t.third) e s.sound.form)) in
    (all_pass (has_few_pending v) (all_clients v.world) (one_few v so f), f))
    es [] (steps.third_traced (third_world k m clients servers disks blocks 3))
    (record {
      sound = sound_first k m clients servers disks blocks;
      people = people_first k m clients servers disks blocks (within_most 1 64 clients head.some_clients);
      standing = standing_first k m clients servers disks blocks;
      also = pending_first k m clients servers disks blocks;
    })
