-- The invariant of a step at a server holds after its changes.
use Rattle.st_lemmas.proofs.Words
use Words.{◌≡◌, ℕ, ◌⊎◌, ◌+◌, ◌<◌, ◌≤◌, Bool, true, false, List, [], ◌∷◌, ◌++◌, sym, ap, ◌∙◌, subst, inl, inr, arith, Option, Some, filter, Result}
use Words.{Ok, Err, if◌then◌else◌, list_all, ltb-true, lt-ltb, Config, ClientId, ServerId, Life, PageNo, Output, IoKind, PageCommand}
use Words.{WriteRefusal}
use Words.Lists.{Has}
use Words.Numbers.{length_more}
use Words.Tables.{all_pass, each_passes, has_append, has_filter}
use Words.ClientInvariants.{is_below}
use Words.ClientPages.{Pages, begin_command, is_full_for, page_command, write, written}
use Words.writing
use Rattle.st_client_session.specs.Sessions.{ServerSession}
use Rattle.st_client_store.specs.Stores.{ServerStore}
use Rattle.st_client_association.specs.Turns.{IsTurn, most_of}
use Rattle.st_client_association.specs.declared.association.AssociationParts.{AssociationParts}

-- numbers stay below a greater one
pub below_more : (n m : ℕ) (cs : List PageCommand) → n ≤ m → list_all (is_below n) cs ≡ true → list_all (is_below m) cs ≡ true
below_more n m cs l h = all_pass (is_below m) cs (λ c i. let q : c.number < n = ltb-true _ _ (each_passes (is_below n) cs h c i) in lt-ltb c.number m (omega arith))

pub below_fewer : (n : ℕ) (q : PageCommand → Bool) (cs : List PageCommand) → list_all (is_below n) cs ≡ true → list_all (is_below n) (filter q cs) ≡ true
below_fewer n q cs h = all_pass (is_below n) (filter q cs) (λ c i. each_passes (is_below n) cs h c (has_filter q cs c i).0)

-- one more command has the next number
pub below_begun : (n ino : ℕ) (p : PageNo) (kind : IoKind) (cs : List PageCommand) → list_all (is_below n) cs ≡ true → list_all (is_below (n + 1)) (begin_command cs n ino p kind) ≡ true
unfolding begin_command
below_begun n ino p kind cs h = all_pass (is_below (n + 1)) (cs ++ page_command n ino p kind ∷ []) (λ c i. by c (has_append cs (page_command n ino p kind ∷ []) c i))
  where
    by : (c : PageCommand) → Has c cs ⊎ Has c (page_command n ino p kind ∷ []) → is_below (n + 1) c ≡ true
    by c (inl i) = let q : c.number < n = ltb-true _ _ (each_passes (is_below n) cs h c i) in lt-ltb c.number (n + 1) (omega arith)
    by c (inr (inl e)) = ap (is_below (n + 1)) e ∙ lt-ltb n (n + 1) (omega arith)
    by c (inr (inr i)) = elim i [ ]

-- one more output
pub more_out : (out : List Output) (o : Output) → most_of (out ++ o ∷ []) ≡ most_of out + 1
more_out out o = omega (arith, length_more out o)

abbrev refused_write : Result Pages WriteRefusal
refused_write = Err writing.DirtyFull

-- a change that was not refused raises the next version
pub version_written : (ps qs : Pages) (ino : ℕ) (p : PageNo) (bytes : List ℕ) → write ps ino p bytes ≡ Ok qs → qs.next_version ≡ ps.next_version + 1
unfolding write written
version_written ps qs ino p bytes e = by (is_full_for ps ino p) e
  where
    by : (b : Bool) → (if b then refused_write else Ok (written ps ino p bytes)) ≡ Ok qs → qs.next_version ≡ ps.next_version + 1
    by true e = cc
    by false e = let s : written ps ino p bytes ≡ qs = cc in sym (ap (λ z. z.next_version) s)

-- the parts are lent out of their box
pub lent : (p q : AssociationParts) (next : ℕ) (out : List Output) → q ≡ p → IsTurn p.id p.config p.server p.life p.session p.store next out → IsTurn q.id q.config q.server q.life q.session q.store next out
lent p q next out e i = subst (λ (z : AssociationParts). IsTurn z.id z.config z.server z.life z.session z.store next out) (sym e) i

module _ (client : ClientId) (config : Config) (server : ServerId) (life : Life) where
  -- a session and a store are changed that keep their parties and counters
  pub turn_changed : (s t : ServerSession) (st new : ServerStore) (next : ℕ) (out : List Output) → IsTurn client config server life (Some s) st next out →
      t.of ≡ s.of → t.session.requests.next ≡ s.session.requests.next → new.server ≡ st.server → list_all (is_below next) new.store.commands ≡ true →
      new.store.pages.next_version ≡ st.store.pages.next_version → IsTurn client config server life (Some t) new next out
  turn_changed s t st new next out i of asks there given versions =
      record {
        checked = i.checked;
        node = i.node;
        parties = of ∙ i.parties;
        stored = there ∙ i.stored;
        given = given;
        commands = i.commands;
        versions = subst (λ n. n < most_of out) (sym versions) i.versions;
        lives = i.lives;
        requests = subst (λ n. n < most_of out) (sym asks) i.requests;
      }

  pub store_changed : (s : Option ServerSession) (st new : ServerStore) (next : ℕ) (out : List Output) → IsTurn client config server life s st next out →
      new.server ≡ st.server → list_all (is_below next) new.store.commands ≡ true → new.store.pages.next_version ≡ st.store.pages.next_version → IsTurn client config server life s new next out
  store_changed s st new next out i there given versions =
      record {
        checked = i.checked;
        node = i.node;
        parties = i.parties;
        stored = there ∙ i.stored;
        given = given;
        commands = i.commands;
        versions = subst (λ n. n < most_of out) (sym versions) i.versions;
        lives = i.lives;
        requests = i.requests;
      }

  -- a command begins, with its output
  pub turn_begun : (s t : ServerSession) (st new : ServerStore) (next : ℕ) (out : List Output) (o : Output) (ino : ℕ) (p : PageNo) (kind : IoKind) →
      IsTurn client config server life (Some s) st next out → t ≡ s → new.server ≡ st.server → new.store.commands ≡ begin_command st.store.commands next ino p kind →
      new.store.pages ≡ st.store.pages → IsTurn client config server life (Some t) new (next + 1) (out ++ o ∷ [])
  turn_begun s t st new next out o ino p kind i same there begun pages =
      let m = more_out out o in
      let a = i.commands in
      let b = i.lives in
      let v : new.store.pages.next_version < most_of out = subst (λ ps. ps.next_version < most_of out) (sym pages) i.versions in
      let r : t.session.requests.next < most_of out = subst (λ (x : ServerSession). x.session.requests.next < most_of out) (sym same) i.requests in
      record {
        checked = i.checked;
        node = i.node;
        parties = ap (λ x. x.of) same ∙ i.parties;
        stored = there ∙ i.stored;
        given = subst (λ cs. list_all (is_below (next + 1)) cs ≡ true) (sym begun) (below_begun next ino p kind st.store.commands i.given);
        commands = omega (arith, m, a);
        versions = omega (arith, m, v);
        lives = omega (arith, m, b);
        requests = omega (arith, m, r);
      }

  -- a request is asked, and sent
  pub turn_asked : (s t : ServerSession) (st : ServerStore) (next : ℕ) (out : List Output) (o : Output) → IsTurn client config server life (Some s) st next out →
      t.of ≡ s.of → t.session.requests.next ≡ s.session.requests.next + 1 → IsTurn client config server life (Some t) st next (out ++ o ∷ [])
  turn_asked s t st next out o i of asks =
      let m = more_out out o in
      let a = i.commands in
      let b = i.lives in
      let v = i.versions in
      let r = i.requests in
      record {
        checked = i.checked;
        node = i.node;
        parties = of ∙ i.parties;
        stored = i.stored;
        given = i.given;
        commands = omega (arith, m, a);
        versions = omega (arith, m, v);
        lives = omega (arith, m, b);
        requests = omega (arith, m, r, asks);
      }

  -- a page is changed, with its note
  pub turn_written : (s t : ServerSession) (st new : ServerStore) (next : ℕ) (out : List Output) (o : Output) → IsTurn client config server life (Some s) st next out →
      t ≡ s → new.server ≡ st.server → list_all (is_below next) new.store.commands ≡ true → new.store.pages.next_version ≡ st.store.pages.next_version + 1 →
      IsTurn client config server life (Some t) new next (out ++ o ∷ [])
  turn_written s t st new next out o i same there given version =
      let m = more_out out o in
      let a = i.commands in
      let b = i.lives in
      let v = i.versions in
      let r : t.session.requests.next < most_of out = subst (λ (x : ServerSession). x.session.requests.next < most_of out) (sym same) i.requests in
      record {
        checked = i.checked;
        node = i.node;
        parties = ap (λ x. x.of) same ∙ i.parties;
        stored = there ∙ i.stored;
        given = given;
        commands = omega (arith, m, a);
        versions = omega (arith, m, v, version);
        lives = omega (arith, m, b);
        requests = omega (arith, m, r);
      }
