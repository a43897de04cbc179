-- What is pending belongs to a life before its lease end: a client's step, a crash and a start keep it.
use Rattle.st_lemmas.proofs.Words
use Words.{◌≡◌, ◌≢◌, ◌<◌, ◌⊎◌, Bool, true, false, List, [], ◌∷◌, ◌++◌, Option, Some, None, refl, sym, ap, ◌∙◌, subst, inl, inr, arith, leb-true, find, map}
use Words.{nat_le, option_map, ne_eqb, Config, ClientId, FileId, PageNo, ServerId, Life, Stamp, Note, Output, LogEntry, LogOwner, LeaseLife}
use Words.nodes
use Words.notes
use Words.outputs
use Words.FlatLog as log
use Words.ClientLease as lease
use Words.Client as cl
use Words.ClientState.{Association, ClientState, ClientSession, is_at}
use Words.World as world
use Words.World.{World, WorldClient, numbered, with_numbered, site_of, clock_of, is_life_of, ended_of, end_or_present, lease_end_of}
use Words.Events as ev
use Words.Events.{WorldTurn, client_says, client_says_all, client_notes}
use Words.Lists.{Has}
use Words.Lookups.{some_is}
use Words.Tables.{same_or_not}
use Words.Numbers.{numbered_own, numbered_other, numbered_below}
use Words.Truth.{none_not_some, not_both}
use Rattle.st_laws_pages.specs.Fates.Fates.{PendingAll, BeforeEnd}
use Rattle.st_laws_steps.specs.Client.Losses.{SessionNext, is_ended}
use Rattle.st_laws_steps.specs.Lives.Lives.{rows_lost, LifeNext, clock_in, NodeHolds, LivesHold}
use Rattle.st_laws_steps.specs.Client.Notes.{NoteAt, NotesAll, IsChangedAt}
use Rattle.st_laws_pages.proofs.Lives.Lives.{find_front, find_back}
use Rattle.st_laws_steps.proofs.Lives.Associations.{own_found, found_has, lost_has, lost_other, pair_left, PairLeft}
use Rattle.st_laws_pages.proofs.Lives.NodeTurns.{row_is}
use Rattle.st_laws_pages.proofs.Lives.Turning.{says_one}
use Rattle.st_laws_steps.proofs.Client.Dirtying.{note_map}

-- no row is lost of a server whose lease is not over
pub none_lost : (c : ClientId) (s : ClientState) (now : Stamp) (k : Rattle.st_base.specs.declared.config.Config.Config) (ts : List Stamp) (es : List LeaseLife) (n : cl.ClientNode) → n.state ≡ s → NodeHolds k ts es c n → (a : Association) (l : Life) → Has a s.associations → is_ended s.config now a.session ≡ false →
    find (is_life_of c a.server l) (rows_lost c s now s.associations) ≡ None
none_lost c s now k ts es n e h a l i f = go (find (is_life_of c a.server l) (rows_lost c s now s.associations)) refl
  where
    once : Rattle.st_laws_steps.specs.Lives.Lives.Once (map Rattle.st_laws_steps.specs.Lives.Lives.server_number s.associations)
    once = subst (λ (x : ClientState). Rattle.st_laws_steps.specs.Lives.Lives.Once (map Rattle.st_laws_steps.specs.Lives.Lives.server_number x.associations)) e h.once

    go : (o : Option LeaseLife) → find (is_life_of c a.server l) (rows_lost c s now s.associations) ≡ o → o ≡ None
    go None q = refl
    go (Some r) q =
        let z = row_is c a.server l (rows_lost c s now s.associations) r q in
        let w = lost_has c s now s.associations r z.0 in
        let server : w.a.server ≡ a.server = ap (λ (x : LeaseLife). x.server) (sym w.is) ∙ z.2 in
        let same : w.a ≡ a = some_is (sym (own_found s.associations once w.a w.has) ∙ ap (λ v. find (is_at v) s.associations) server ∙ own_found s.associations once a i) in
        absurd (not_both (is_ended s.config now a.session) (ap (λ (x : Association). is_ended s.config now x.session) (sym same) ∙ w.ended) f)

-- what is pending stays before its end, by the parts of a world
module _ (w v : World) (c : ClientId) (old site : WorldClient) (there : site_of w c ≡ Some old) (h : LivesHold w) (ts : v.clocks ≡ w.clocks) (cs : v.clients ≡ with_numbered c.0 site w.clients)
    (es : v.ended ≡ w.ended ++ rows_lost c old.node.state (clock_in w.clocks c) old.node.state.associations) (after : ClientState) (node : site.node.state ≡ after)
    (pairs : Rattle.st_laws_steps.specs.Lives.Lives.Pairwise (LifeNext (clock_in w.clocks c) old.node.state) old.node.state.associations after.associations) (config : old.node.state.config ≡ after.config) where
  abbrev rows : List LeaseLife
  rows = rows_lost c old.node.state (clock_in w.clocks c) old.node.state.associations

  mine : NodeHolds w.config w.clocks w.ended c old.node
  mine = h.lives.sites c old there

  -- the end of a lease in the new world, by what is found there
  end_now : (d : ClientId) (s : ServerId) (l : Life) (o : Option LeaseLife) → find (is_life_of d s l) (w.ended ++ rows) ≡ o → lease_end_of v d s l ≡ end_or_present v d s o
  end_now d s l o q = ap (end_or_present v d s) (ap (find (is_life_of d s l)) es ∙ q)

  before_now : (d : ClientId) (end : Stamp) → (clock_of w (nodes.Client d)).0 < end.0 → (clock_of v (nodes.Client d)).0 < end.0
  before_now d end b = subst (λ z. (clock_in z d).0 < end.0) (sym ts) b

  own_site : numbered v.clients c.0 ≡ Some site
  own_site = ap (λ z. numbered z c.0) cs ∙ numbered_own w.clients c.0 site old there

  -- a session that has not ended goes on
  goes_on : (o : LogOwner) → o.client.0 ≡ c.0 → ended_of w o.client o.file.server o.life ≡ None → (a : Association) → find (is_at o.file.server) old.node.state.associations ≡ Some a → (s : ClientSession) → a.session ≡ Some s →
      (clock_in w.clocks o.client).0 < (lease.end_of old.node.state.config s.lease).0 → BeforeEnd v o
  goes_on o q n a f s e b = go (pair_left (LifeNext (clock_in w.clocks c) old.node.state) (λ x y p. p.server) o.file.server old.node.state.associations after.associations pairs a f)
    where
      id : c ≡ o.client
      id = ap (λ m. record { 0 = m }) (sym q)

      has : Has a old.node.state.associations × (a.server ≡ o.file.server)
      has = found_has o.file.server old.node.state.associations a f

      not_over : is_ended old.node.state.config (clock_in w.clocks c) a.session ≡ false
      not_over = ap (is_ended old.node.state.config (clock_in w.clocks c)) e ∙ go (nat_le (lease.end_of old.node.state.config s.lease).0 (clock_in w.clocks c).0) refl
        where
          go : (x : Bool) → nat_le (lease.end_of old.node.state.config s.lease).0 (clock_in w.clocks c).0 ≡ x → x ≡ false
          go true y = let z = leb-true _ _ y in let t = subst (λ (d : ClientId). (clock_in w.clocks d).0 < (lease.end_of old.node.state.config s.lease).0) (sym id) b in absurd (omega (arith, z, t))
          go false y = refl

      none : find (is_life_of o.client o.file.server o.life) (w.ended ++ rows) ≡ None
      none =
          find_back (is_life_of o.client o.file.server o.life) w.ended rows n
          ∙ ap (λ d. find (is_life_of d o.file.server o.life) rows) (sym id) ∙ ap (λ t. find (is_life_of c t o.life) rows) (sym has.1)
          ∙ none_lost c old.node.state (clock_in w.clocks c) w.config w.clocks w.ended old.node refl mine a o.life has.0 not_over

      go : PairLeft (LifeNext (clock_in w.clocks c) old.node.state) o.file.server after.associations a → BeforeEnd v o
      go p = at p.b.session refl (subst (λ z. SessionNext old.node.state.config (clock_in w.clocks c) z p.b.session) e (p.pair.lasts not_over).1)
        where
          at : (x : Option ClientSession) → p.b.session ≡ x → SessionNext old.node.state.config (clock_in w.clocks c) (Some s) x → BeforeEnd v o
          at None y z = absurd z
          at (Some u) y z =
              record {
                end = lease.end_of after.config u.lease;
                is =
                    end_now o.client o.file.server o.life None none ∙ ap (λ m. world.present_end v o.file.server (numbered v.clients m)) q ∙ ap (world.present_end v o.file.server) own_site
                    ∙ ap (λ (x : ClientState). cl.lease_end_with x o.file.server) node ∙ ap (λ m. lease.end_at after.config (cl.lease_at m)) p.is ∙ ap (λ m. lease.end_at after.config (option_map cl.lease_of_session m)) y;
                before =
                    before_now o.client (lease.end_of after.config u.lease)
                    (subst (λ (k : Rattle.st_base.specs.declared.config.Config.Config). (clock_in w.clocks o.client).0 < (lease.end_of k u.lease).0) config (omega (arith, b, z)));
              }

  pub still_before : (o : LogOwner) → BeforeEnd w o → BeforeEnd v o
  still_before o b = go (ended_of w o.client o.file.server o.life) refl (same_or_not o.client.0 c.0)
    where
      inj : (x y : Stamp) → Some x ≡ Some y → x ≡ y
      inj x y e = cc

      session : (a : Association) → find (is_at o.file.server) old.node.state.associations ≡ Some a → (s : Option ClientSession) → a.session ≡ s → lease.end_at old.node.state.config (option_map cl.lease_of_session s) ≡ Some b.end → o.client.0 ≡ c.0 → ended_of w o.client o.file.server o.life ≡ None → BeforeEnd v o
      session a f None e q i n = absurd (none_not_some b.end q)
      session a f (Some s) e q i n = goes_on o i n a f s e (subst (λ (z : Stamp). (clock_in w.clocks o.client).0 < z.0) (sym (inj _ b.end q)) b.before)

      place : (a : Option Association) → find (is_at o.file.server) old.node.state.associations ≡ a → lease.end_at old.node.state.config (cl.lease_at a) ≡ Some b.end → o.client.0 ≡ c.0 → ended_of w o.client o.file.server o.life ≡ None → BeforeEnd v o
      place None f q i n = absurd (none_not_some b.end q)
      place (Some a) f q i n = session a f a.session refl q i n

      go : (x : Option LeaseLife) → ended_of w o.client o.file.server o.life ≡ x → (o.client.0 ≡ c.0) ⊎ (o.client.0 ≢ c.0) → BeforeEnd v o
      go (Some e) q i =
          record {
            end = b.end;
            is = end_now o.client o.file.server o.life (Some e) (find_front (is_life_of o.client o.file.server o.life) w.ended rows e q) ∙ ap (end_or_present w o.client o.file.server) (sym q) ∙ b.is;
            before = before_now o.client b.end b.before;
          }
      go None q (inl i) =
          place (find (is_at o.file.server) old.node.state.associations) refl
          (ap (world.present_end w o.file.server) (sym there) ∙ ap (λ m. world.present_end w o.file.server (numbered w.clients m)) (sym i) ∙ ap (end_or_present w o.client o.file.server) (sym q) ∙ b.is) i q
      go None q (inr i) =
          record {
            end = b.end;
            is =
                end_now o.client o.file.server o.life None
                (find_back (is_life_of o.client o.file.server o.life) w.ended rows q ∙ lost_other c o.client old.node.state (clock_in w.clocks c) o.file.server o.life old.node.state.associations (ne_eqb c.0 o.client.0 (λ z. i (sym z))))
                ∙ ap (world.present_end w o.file.server) (ap (λ z. numbered z o.client.0) cs ∙ numbered_other w.clients c.0 o.client.0 site (numbered_below w.clients c.0 old there).0 i) ∙ ap (end_or_present w o.client o.file.server) (sym q) ∙ b.is;
            before = before_now o.client b.end b.before;
          }

-- a page that was changed belongs to a life before its end
pub changed_before : (v : World) (c : ClientId) (site : WorldClient) (now : Stamp) → site_of v c ≡ Some site → site.node.running ≡ true → LivesHold v → clock_in v.clocks c ≡ now → (f : FileId) (p : PageNo) → IsChangedAt v.config now site.node.state.associations f p →
    BeforeEnd v (log.owner c (ev.present_life v c f.server) f p)
changed_before v c site now there r h t f p (a, i, z) =
    record {
      end = lease.end_of v.config z.session.lease;
      is =
          ap (end_or_present v c f.server) (none (find (is_life_of c f.server (ev.present_life v c f.server)) v.ended) refl) ∙ ap (world.present_end v f.server) there
          ∙ ap (λ k. lease.end_at k (cl.lease_at (find (is_at f.server) site.node.state.associations))) m.config
          ∙ ap (λ o. lease.end_at v.config (cl.lease_at o)) found ∙ ap (λ o. lease.end_at v.config (option_map cl.lease_of_session o)) z.is;
      before = subst (λ (s : Stamp). s.0 < (lease.end_of v.config z.session.lease).0) (sym t) z.before;
    }
  where
    m : NodeHolds v.config v.clocks v.ended c site.node
    m = h.lives.sites c site there

    found : find (is_at f.server) site.node.state.associations ≡ Some a
    found = ap (λ s. find (is_at s) site.node.state.associations) z.server ∙ own_found site.node.state.associations m.once a i

    none : (o : Option LeaseLife) → find (is_life_of c f.server (ev.present_life v c f.server)) v.ended ≡ o → o ≡ None
    none None q = refl
    none (Some e) q =
        let y = row_is c f.server (ev.present_life v c f.server) v.ended e q in
        let b = (m.below e y.0 y.1 a (ap (λ s. find (is_at s) site.node.state.associations) y.2 ∙ found)).below r in
        let l = ap (λ (x : Life). x.0) y.3 ∙ ap (λ o. (ev.life_of_site f.server o).0) there ∙ ap (λ o. (world.life_at o).0) found in
        absurd (omega (arith, b, l))

-- What a client says leaves pending what was, and what it accepts.
pub pending_more : (P : LogOwner → Type 0) (es : List LogEntry) (e : LogEntry) → (log.is_pending e.fate ≡ true → P e.of) → PendingAll P es → PendingAll P (es ++ e ∷ [])
pending_more P [] e p h = record { one = p; rest = record {} }
pending_more P (x ∷ es) e p h = record { one = h.one; rest = pending_more P es e p h.rest }

one_pending : (P : LogOwner → Type 0) (c : ClientId) (before : ClientState) (o : Output) (sc : WorldTurn) → NoteAt (λ f p. P (log.owner c (ev.present_life sc.world c f.server) f p)) o → PendingAll P sc.world.log → PendingAll P (client_says sc c before o).world.log
unfolding client_says ev.sends ev.submits ev.answers_with client_notes ev.accepts ev.patches ev.loses log.accept log.patch
one_pending P c before (outputs.Send m) sc n h = h
one_pending P c before (outputs.Answer op a) sc n h = h
one_pending P c before (outputs.Submit k at what) sc n h = go (site_of sc.world c)
  where
    go : (o : Option WorldClient) → PendingAll P (ev.submits sc c o k at what).world.log
    go None = h
    go (Some site) = h
one_pending P c before (outputs.Note m) sc n h = note m n
  where
    note : (m : Note) → NoteAt (λ f p. P (log.owner c (ev.present_life sc.world c f.server) f p)) (outputs.Note m) → PendingAll P (client_notes sc c before m).world.log
    note (notes.Accepted f p bytes) n = pending_more P sc.world.log _ (λ q. n) h
    note (notes.Patched f p at bytes) n = pending_more P sc.world.log _ (λ q. n) h
    note (notes.Lost s life) n = h
    note m n = h

pub says_pending : (P : LogOwner → Type 0) (c : ClientId) (before : ClientState) (life : ServerId → Life) (os : List Output) (sc : WorldTurn) → ((s : ServerId) → life s ≡ ev.present_life sc.world c s) → NotesAll (λ f p. P (log.owner c (life f.server) f p)) os →
    PendingAll P sc.world.log → PendingAll P (client_says_all c before os sc).world.log
unfolding client_says_all
says_pending P c before life [] sc e n h = h
says_pending P c before life (o ∷ os) sc e n h =
    says_pending P c before life os (client_says sc c before o) (λ s. e s ∙ ap (λ z. ev.life_of_site s (numbered z c.0)) (sym (says_one c before o sc).clients)) n.rest
    (one_pending P c before o sc (note_map (λ f p. P (log.owner c (life f.server) f p)) (λ f p. P (log.owner c (ev.present_life sc.world c f.server) f p)) (λ f p z. subst (λ l. P (log.owner c l f p)) (e f.server) z) o n.one) h)
