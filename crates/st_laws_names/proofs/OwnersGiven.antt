-- Each event that changed the names of a server is given the ask that owns it: from what holds of owners at each step of a run, names change once.
use Rattle.st_lemmas.proofs.Words
use Words.{◌≡◌, ◌⊎◌, ℕ, ◌+◌, zero, suc, arith, Bool, true, false, not, ◌&&◌, ◌||◌, ◌==◌, List, [], ◌∷◌, ◌++◌, Option, Some, None, refl, sym, ap, ◌∙◌, subst}
use Words.{inl, inr, if◌then◌else◌, slice_get, cons_option, list_all, list_any, eqb-true, eq-eqb, append-nil, ClientId, ServerId, NameAsk, AppAnswer, Ask}
use Words.{Observation, false_from_ne_true}
use Words.names.{Lookup, Create, Mkdir, Remove, Rename, List as ListFrom}
use Words.answers
use Words.asks
use Words.seen
use Words.Safety.{Promise, Step, Throughout, ask_in, event_of}
use Words.World.{all_clients, all_servers, numbered}
use Words.Lists.{Has}
use Words.Lookups.{some_is}
use Words.Tables.{all_pass, and_both, and_true, has_append, some_passes, none_passes}
use Words.Lengths.{get_longer}
use Words.Members.{has_left, has_right, some_member_passes}
use Words.Truth.{clash}
use Rattle.std.proofs.lemmas.List.{append_assoc}
use Rattle.st_promises.specs.Counts.{under_numbers}
use Rattle.st_promises.specs.CutAsks.{is_uncertain, numbered_asks, settles, settles_in}
use Rattle.st_promises.specs.NameAnswers.{changes_in, says_in}
use Rattle.st_promises.specs.NamesOnce.{NamesChangeOnce, all_have_events, answered_so, answered_so_in, are_done, has_event, is_change_of, is_changed_once}
use Rattle.st_promises.specs.NamesOnce.{is_done_by, is_done_for, is_given, is_of_ask, names_it, names_it_in}
use Rattle.st_laws_requests.specs.Cuts.Cuts.{asks_of}
use Rattle.st_laws_names.specs.Owners.{AsksOwnChanges, Owner, Owns}
use Rattle.st_laws_cuts.proofs.Words.{same_as, under_has}

-- Small facts.

-- a list after one more member, and the rest
behind : {A : Type 0} (xs : List A) (y : A) (ys : List A) → (xs ++ y ∷ []) ++ ys ≡ xs ++ y ∷ ys
behind xs y ys = append_assoc xs (y ∷ []) ys

-- an ask that is under its number is that of the number
under_is : {A : Type 0} (n : ℕ) (xs : List A) (k : ℕ × A) → Has k (under_numbers n xs) → (j : ℕ) × (k.0 ≡ n + j) × (slice_get xs j ≡ Some k.1)
unfolding under_numbers
under_is {A} n (x ∷ xs) k (inl e) = (0, ap (λ (v : ℕ × A). v.0) e ∙ zero_more, ap (λ (v : ℕ × A). Some v.1) (sym e))
  where
    zero_more : n ≡ n + 0
    zero_more = omega arith
under_is n (x ∷ xs) k (inr i) = let z = under_is (n + 1) xs k i in (suc z.0, (let q = z.1 in omega (arith, q)), z.2)
under_is n [] k i = absurd i

numbered_under : (past : List Step) (c : ClientId) (op : ℕ) (a : Ask) → numbered (asks_of past c) op ≡ Some a → Has (op, a) (numbered_asks past c)
numbered_under past c zero a q = cc q
numbered_under past c (suc n) a q = subst (λ j. Has (j, a) (numbered_asks past c)) (omega arith) (under_has 1 (asks_of past c) n a q)

under_numbered : (past : List Step) (c : ClientId) (k : ℕ × Ask) → Has k (numbered_asks past c) → numbered (asks_of past c) k.0 ≡ Some k.1
under_numbered past c k i = subst (λ j. numbered (asks_of past c) j ≡ Some k.1) (sym z.1 ∙ refl) (subst (λ j. numbered (asks_of past c) j ≡ Some k.1) same z.2)
  where
    z : (j : ℕ) × (k.0 ≡ 1 + j) × (slice_get (asks_of past c) j ≡ Some k.1)
    z = under_is 1 (asks_of past c) k i

    same : suc z.0 ≡ 1 + z.0
    same = omega arith

-- an answer that does not settle an ask is `uncertain`
unsettled_by : (c : ClientId) (op : ℕ) (a : AppAnswer) → settles c op (seen.Answered c op a) ≡ false → is_uncertain a ≡ true
unsettled_by c op a e = go (c.0 == c.0) (op == op) (is_uncertain a) (eq-eqb c.0 c.0 refl) (eq-eqb op op refl) e
  where
    go : (x y z : Bool) → x ≡ true → y ≡ true → (x && (y && not z)) ≡ false → z ≡ true
    go true true true f g h = refl
    go true true false f g h = cc h
    go true false z f g h = cc g
    go false y z f g h = cc f

-- A promise that is kept throughout is kept at each of the steps, at its place.
record At (promise : Promise) (past ys : List Step) (z : Step) : Type 0 where
  pub mid : List Step
  pub rest : List Step
  pub is : ys ≡ mid ++ z ∷ rest
  pub kept : promise (past ++ mid) z

at_each : (P : Promise) (past ys : List Step) → Throughout P past ys → (z : Step) → Has z ys → At P past ys z
unfolding Throughout
at_each P past (y ∷ ys) k z (inl e) =
    record { mid = []; rest = ys; is = ap (λ (x : Step). x ∷ ys) (sym e); kept = subst (λ (p : List Step). P p z) (sym (append-nil past)) (subst (P past) (sym e) k.0) }
at_each P past (y ∷ ys) k z (inr h) = go (at_each P (past ++ y ∷ []) ys k.1 z h)
  where
    go : At P (past ++ y ∷ []) ys z → At P past (y ∷ ys) z
    go q = record { mid = y ∷ q.mid; rest = q.rest; is = ap (λ (zs : List Step). y ∷ zs) q.is; kept = subst (λ (p : List Step). P p z) (behind past y q.mid) q.kept }
at_each P past [] k z h = absurd h

at_last : (P : Promise) (a past : List Step) (x : Step) → Throughout P a (past ++ x ∷ []) → P (a ++ past) x
unfolding Throughout
at_last P a [] x k = subst (λ (p : List Step). P p x) (sym (append-nil a)) k.0
at_last P a (y ∷ past) x k = subst (λ (p : List Step). P p x) (behind a y past) (at_last P (a ++ y ∷ []) past x k.1)

one_more : (P : Promise) (a past : List Step) (x : Step) → Throughout P a past → P (a ++ past) x → Throughout P a (past ++ x ∷ [])
unfolding Throughout
one_more P a [] x k p = (subst (λ (q : List Step). P q x) (append-nil a) p, tt)
one_more P a (y ∷ past) x k p = (k.0, one_more P (a ++ y ∷ []) past x k.1 (subst (λ (q : List Step). P q x) (sym (behind a y past)) p))

-- the first of a list that is parted
first_in : (y : Step) (ys mid rest : List Step) (z : Step) → y ∷ ys ≡ mid ++ z ∷ rest → Has y (mid ++ z ∷ [])
first_in y ys [] rest z e = inl (cc e)
first_in y ys (m ∷ mid) rest z e = inl (cc e)

-- Asks stay where they are.
asks_append : (past qs : List Step) (c : ClientId) → asks_of (past ++ qs) c ≡ asks_of past c ++ asks_of qs c
asks_append [] qs c = refl
asks_append (x ∷ past) qs c = go (ask_in c (event_of x)) (asks_of (past ++ qs) c) (asks_of past c) (asks_append past qs c)
  where
    go : (o : Option Ask) (ks ls : List Ask) → ks ≡ ls ++ asks_of qs c → cons_option o ks ≡ cons_option o ls ++ asks_of qs c
    go None ks ls e = e
    go (Some a) ks ls e = ap (λ (l : List Ask). a ∷ l) e

asked_on : (past qs : List Step) (c : ClientId) (op : ℕ) (a : Ask) → numbered (asks_of past c) op ≡ Some a → numbered (asks_of (past ++ qs) c) op ≡ Some a
asked_on past qs c zero a e = cc e
asked_on past qs c (suc n) a e = ap (λ (l : List Ask). slice_get l n) (asks_append past qs c) ∙ get_longer (asks_of past c) (asks_of qs c) n a e

-- an ask that changes names is one for a name, to the server
change_is : (s : ServerId) (a : Ask) → is_change_of s a ≡ true → (ask : NameAsk) × (a ≡ asks.Name s ask) × (is_change_of s (asks.Name s ask) ≡ true)
change_is s (asks.Name t ask) e = go ask e
  where
    same : (t.0 == s.0) ≡ true → t ≡ s
    same f = ap (λ n. record { 0 = n }) (eqb-true t.0 s.0 f)

    its : (k : NameAsk) → (t.0 == s.0) ≡ true → is_change_of s (asks.Name s k) ≡ true → (ask : NameAsk) × (asks.Name t k ≡ asks.Name s ask) × (is_change_of s (asks.Name s ask) ≡ true)
    its k f h = (k, ap (λ n. asks.Name n k) (same f), h)

    go : (k : NameAsk) → is_change_of s (asks.Name t k) ≡ true → (ask : NameAsk) × (asks.Name t k ≡ asks.Name s ask) × (is_change_of s (asks.Name s ask) ≡ true)
    go (Create dir x) f = its (Create dir x) f (eq-eqb s.0 s.0 refl)
    go (Mkdir dir x) f = its (Mkdir dir x) f (eq-eqb s.0 s.0 refl)
    go (Remove dir x ino) f = its (Remove dir x ino) f (eq-eqb s.0 s.0 refl)
    go (Rename dir x dir2 x2) f = its (Rename dir x dir2 x2) f (eq-eqb s.0 s.0 refl)
    go (Lookup dir x) f = cc f
    go (ListFrom dir x) f = cc f
change_is s a e = cc e

-- an answer with an inode
named_is : (c : ClientId) (op : ℕ) (o : Observation) → names_it c op o ≡ true → (ino : ℕ) × (seen.Answered c op (answers.Named ino) ≡ o)
named_is c op (seen.Answered d n (answers.Named ino)) e = (ino, same_as d c n op (answers.Named ino) e)
named_is c op o e = cc e

-- what owns a change goes on to
owns_longer : (past qs : List Step) (y : Step) (s : ServerId) (c : ClientId) (op : ℕ) → Owns past y s c op → Owns (past ++ qs) y s c op
owns_longer past qs y s c op o = record { life_ = o.life_; epoch_ = o.epoch_; number_ = o.number_; reply = o.reply; served = o.served; at = o.at; among = has_left past qs o.at o.among; waits = o.waits }

module _ (all : List Step) (cs : List ClientId) (s : ServerId) (whole : Throughout AsksOwnChanges [] all)
    (alone : (y : Step) → Has y all → (c d : ClientId) (op n : ℕ) → Owns all y s c op → Owns all y s d n → (c ≡ d) × (op ≡ n))
    (clients : (y : Step) (c : ClientId) (op : ℕ) → Owns all y s c op → Has c cs) where
  -- each change so far is given its owner, and nothing else is given
  record Stands (past : List Step) (given : List (ClientId × ℕ)) : Type 0 where
    pub each : (y : Step) → Has y past → changes_in s y ≡ true → (d : ClientId × ℕ) × Has d given × Owns all y s d.0 d.1
    pub only : (d : ClientId × ℕ) → Has d given → (y : Step) × Has y past × (changes_in s y ≡ true) × Owns past y s d.0 d.1

  -- an answer to the owner of a change, whenever it is given
  answered : (past ys : List Step) (y : Step) → all ≡ past ++ y ∷ ys → Throughout AsksOwnChanges past (y ∷ ys) → changes_in s y ≡ true → (o : Owner past y s) → list_all (answered_so_in s o.ask y o.c o.op) all ≡ true
  answered past ys y q k e o = all_pass (answered_so_in s o.ask y o.c o.op) all (λ z h. all_pass (answered_so s o.ask y o.c o.op) z.seen (λ b i. one z (subst (Has z) q h) b i))
    where
      earlier : (z : Step) → Has z past → (a : AppAnswer) → Has (seen.Answered o.c o.op a) z.seen → (is_uncertain a || says_in s o.ask a y) ≡ true
      earlier z h a i = ap (λ b. b || says_in s o.ask a y) (unsettled_by o.c o.op a (none_passes (settles o.c o.op) z.seen (none_passes (settles_in o.c o.op) past o.unsettled z h) _ i))

      later : (z : Step) → Has z (y ∷ ys) → (a : AppAnswer) → Has (seen.Answered o.c o.op a) z.seen → (is_uncertain a || says_in s o.ask a y) ≡ true
      later z h a i = by (at_each AsksOwnChanges past (y ∷ ys) k z h)
        where
          by : At AsksOwnChanges past (y ∷ ys) z → (is_uncertain a || says_in s o.ask a y) ≡ true
          by p = p.kept.told y (subst (Has y) parts (has_right past (p.mid ++ z ∷ []) y (first_in y ys p.mid p.rest z p.is))) s o.c o.op o.ask a e
              (subst (λ (l : List Step). Owns l y s o.c o.op) parts (owns_longer past (p.mid ++ z ∷ []) y s o.c o.op o.owns))
              (subst (λ (l : List Step). numbered (asks_of l o.c) o.op ≡ Some (asks.Name s o.ask)) parts (asked_on past (p.mid ++ z ∷ []) o.c o.op _ o.asked)) i
            where
              parts : past ++ (p.mid ++ z ∷ []) ≡ (past ++ p.mid) ++ z ∷ []
              parts = sym (append_assoc past p.mid (z ∷ []))

      one : (z : Step) → Has z (past ++ y ∷ ys) → (b : Observation) → Has b z.seen → answered_so s o.ask y o.c o.op b ≡ true
      one z h (seen.Answered d n a) i = go ((d.0 == o.c.0) && (n == o.op)) refl
        where
          go : (b : Bool) → ((d.0 == o.c.0) && (n == o.op)) ≡ b → (not b || (is_uncertain a || says_in s o.ask a y)) ≡ true
          go false f = refl
          go true f = by (has_append past (y ∷ ys) z h)
            where
              there : Has (seen.Answered o.c o.op a) z.seen
              there = subst (λ (b : Observation). Has b z.seen) (sym (same_as d o.c n o.op a f)) i

              by : Has z past ⊎ Has z (y ∷ ys) → (is_uncertain a || says_in s o.ask a y) ≡ true
              by (inl j) = earlier z j a there
              by (inr j) = later z j a there
      one z h b i = refl

  -- an event that changed nothing
  passes : (past : List Step) (y : Step) (given : List (ClientId × ℕ)) → changes_in s y ≡ false → Stands past given → Stands (past ++ y ∷ []) given
  passes past y given e st = record { each = λ z h f. each z f (has_append past (y ∷ []) z h); only = λ d h. let z = st.only d h in (z.0, has_left past (y ∷ []) z.0 z.1, z.2, owns_longer past (y ∷ []) z.0 s d.0 d.1 z.3) }
    where
      each : (z : Step) → changes_in s z ≡ true → Has z past ⊎ Has z (y ∷ []) → (d : ClientId × ℕ) × Has d given × Owns all z s d.0 d.1
      each z f (inl i) = st.each z i f
      each z f (inr (inl p)) = clash f (ap (changes_in s) p ∙ e)
      each z f (inr (inr i)) = absurd i

  -- a change that is given its owner
  takes : (past ys : List Step) (y : Step) (given : List (ClientId × ℕ)) → all ≡ past ++ y ∷ ys → changes_in s y ≡ true → (o : Owner past y s) → Stands past given → Stands (past ++ y ∷ []) ((o.c, o.op) ∷ given)
  takes past ys y given q e o st = record { each = λ z h f. each z f (has_append past (y ∷ []) z h); only = only }
    where
      own : Owns all y s o.c o.op
      own = subst (λ (l : List Step). Owns l y s o.c o.op) (sym q) (owns_longer past (y ∷ ys) y s o.c o.op o.owns)

      each : (z : Step) → changes_in s z ≡ true → Has z past ⊎ Has z (y ∷ []) → (d : ClientId × ℕ) × Has d ((o.c, o.op) ∷ given) × Owns all z s d.0 d.1
      each z f (inl i) = let d = st.each z i f in (d.0, inr d.1, d.2)
      each z f (inr (inl p)) = ((o.c, o.op), inl refl, subst (λ (w : Step). Owns all w s o.c o.op) (sym p) own)
      each z f (inr (inr i)) = absurd i

      only : (d : ClientId × ℕ) → (d ≡ (o.c, o.op)) ⊎ Has d given → (z : Step) × Has z (past ++ y ∷ []) × (changes_in s z ≡ true) × Owns (past ++ y ∷ []) z s d.0 d.1
      only d (inl p) = (y, has_right past (y ∷ []) y (inl refl), e, subst (λ (v : ClientId × ℕ). Owns (past ++ y ∷ []) y s v.0 v.1) (sym p) (owns_longer past (y ∷ []) y s o.c o.op o.owns))
      only d (inr h) = let z = st.only d h in (z.0, has_left past (y ∷ []) z.0 z.1, z.2, owns_longer past (y ∷ []) z.0 s d.0 d.1 z.3)

  -- the owner of a change is not given yet
  not_given : (past : List Step) (y : Step) (given : List (ClientId × ℕ)) → AsksOwnChanges past y → changes_in s y ≡ true → (o : Owner past y s) → Stands past given → list_any (is_given o.c o.op) given ≡ false
  not_given past y given k e o st = false_from_ne_true _ (λ f. by (some_member_passes (is_given o.c o.op) given f))
    where
      by : (d : ClientId × ℕ) × Has d given × (is_given o.c o.op d ≡ true) → ⊥
      by (d, h, g) = k.once z.0 z.1 s o.c o.op z.2 e (subst (λ n. Owns past z.0 s o.c n) op (subst (λ c. Owns past z.0 s c d.1) c z.3)) o.owns
        where
          z : (z : Step) × Has z past × (changes_in s z ≡ true) × Owns past z s d.0 d.1
          z = st.only d h

          both : ((d.0.0 == o.c.0) ≡ true) × ((d.1 == o.op) ≡ true)
          both = and_true (d.0.0 == o.c.0) (d.1 == o.op) g

          c : d.0 ≡ o.c
          c = ap (λ n. record { 0 = n }) (eqb-true d.0.0 o.c.0 both.0)

          op : d.1 ≡ o.op
          op = eqb-true d.1 o.op both.1

  -- a change that was answered with an inode is given
  is_there : (given : List (ClientId × ℕ)) → Stands all given → (c : ClientId) (v : ℕ × Ask) → Has v (numbered_asks all c) → has_event all s given c v ≡ true
  is_there given st c v i = go (is_change_of s v.1) (list_any (names_it_in c v.0) all) refl refl
    where
      found : is_change_of s v.1 ≡ true → (z : Step) → Has z all → (ino : ℕ) → Has (seen.Answered c v.0 (answers.Named ino)) z.seen → list_any (is_given c v.0) given ≡ true
      found e z h ino j = by (at_each AsksOwnChanges [] all whole z h)
        where
          k : (ask : NameAsk) × (v.1 ≡ asks.Name s ask) × (is_change_of s (asks.Name s ask) ≡ true)
          k = change_is s v.1 e

          by : At AsksOwnChanges [] all z → list_any (is_given c v.0) given ≡ true
          by p = some_passes (is_given c v.0) given d.0 d.1 (and_both _ _ (eq-eqb d.0.0.0 c.0 (ap (λ (n : ClientId). n.0) (sym same.0))) (eq-eqb d.0.1 v.0 (sym same.1)))
            where
              parts : (p.mid ++ z ∷ []) ++ p.rest ≡ all
              parts = behind p.mid z p.rest ∙ sym p.is

              made : (ask : Ask) × (numbered (asks_of (p.mid ++ z ∷ []) c) v.0 ≡ Some ask)
              made = p.kept.made c v.0 ino j

              is : made.0 ≡ asks.Name s k.0
              is = some_is (sym (asked_on (p.mid ++ z ∷ []) p.rest c v.0 made.0 made.1) ∙ ap (λ (l : List Step). numbered (asks_of l c) v.0) parts ∙ under_numbered all c v i) ∙ k.1

              did : (y : Step) × Has y (p.mid ++ z ∷ []) × (changes_in s y ≡ true) × Owns (p.mid ++ z ∷ []) y s c v.0
              did = p.kept.did s c v.0 k.0 ino k.2 (made.1 ∙ ap Some is) j

              among : Has did.0 all
              among = subst (Has did.0) parts (has_left (p.mid ++ z ∷ []) p.rest did.0 did.1)

              own : Owns all did.0 s c v.0
              own = subst (λ (l : List Step). Owns l did.0 s c v.0) parts (owns_longer (p.mid ++ z ∷ []) p.rest did.0 s c v.0 did.3)

              d : (d : ClientId × ℕ) × Has d given × Owns all did.0 s d.0 d.1
              d = st.each did.0 among did.2

              same : (c ≡ d.0.0) × (v.0 ≡ d.0.1)
              same = alone did.0 among c d.0.0 v.0 d.0.1 own d.2

      seen_so : is_change_of s v.1 ≡ true → (z : Step) × Has z all × (names_it_in c v.0 z ≡ true) → list_any (is_given c v.0) given ≡ true
      seen_so e (z, h, f) = by (some_member_passes (names_it c v.0) z.seen f)
        where
          by : (o : Observation) × Has o z.seen × (names_it c v.0 o ≡ true) → list_any (is_given c v.0) given ≡ true
          by (o, j, g) = let n = named_is c v.0 o g in found e z h n.0 (subst (λ (o : Observation). Has o z.seen) (sym n.1) j)

      go : (a b : Bool) → is_change_of s v.1 ≡ a → list_any (names_it_in c v.0) all ≡ b → (not (a && b) || list_any (is_given c v.0) given) ≡ true
      go false b e f = refl
      go true false e f = refl
      go true true e f = seen_so e (some_member_passes (names_it_in c v.0) all f)

  -- The events from a place on.
  done : (ys past : List Step) (given : List (ClientId × ℕ)) → all ≡ past ++ ys → Throughout AsksOwnChanges past ys → Stands past given → are_done cs all s past ys given ≡ true
  unfolding are_done Throughout
  done [] past given q k st = all_pass (all_have_events all s given) cs (λ c h. all_pass (has_event all s given c) (numbered_asks all c) (λ v i. is_there given (subst (λ (l : List Step). Stands l given) (sym (q ∙ append-nil past)) st) c v i))
  done (y ∷ ys) past given q k st = go (changes_in s y) refl (λ g z. done ys (past ++ y ∷ []) g (q ∙ sym (behind past y ys)) k.1 z)
    where
      go : (b : Bool) → changes_in s y ≡ b → ((g : List (ClientId × ℕ)) → Stands (past ++ y ∷ []) g → are_done cs all s (past ++ y ∷ []) ys g ≡ true) →
          (if b then list_any (is_done_for all past s given (are_done cs all s (past ++ y ∷ []) ys) y) cs else are_done cs all s (past ++ y ∷ []) ys given) ≡ true
      go false e rest = rest given (passes past y given e st)
      go true e rest = by (k.0.each s e)
        where
          by : Owner past y s → list_any (is_done_for all past s given (are_done cs all s (past ++ y ∷ []) ys) y) cs ≡ true
          by o = some_passes (is_done_for all past s given (are_done cs all s (past ++ y ∷ []) ys) y) cs o.c (clients y o.c o.op (subst (λ (l : List Step). Owns l y s o.c o.op) (sym q) (owns_longer past (y ∷ ys) y s o.c o.op o.owns)))
              (some_passes (is_done_by all past s given (are_done cs all s (past ++ y ∷ []) ys) y o.c) (numbered_asks past o.c) (o.op, asks.Name s o.ask) (numbered_under past o.c o.op (asks.Name s o.ask) o.asked)
              (and_both _ _ (ap not (not_given past y given k.0 e o st)) (and_both _ _ of (rest ((o.c, o.op) ∷ given) (takes past ys y given q e o st)))))
            where
              of : is_of_ask all past s y o.c o.op (asks.Name s o.ask) ≡ true
              of = and_both _ _ (eq-eqb s.0 s.0 refl) (and_both _ _ o.becomes (and_both _ _ o.after (and_both _ _ (ap not o.unsettled) (answered past ys y q k e o))))

-- Names change once.
change_once : (past : List Step) (x : Step) → Throughout AsksOwnChanges [] (past ++ x ∷ []) → NamesChangeOnce past x
change_once past x k = all_pass (is_changed_once (all_clients x.after.world) (past ++ x ∷ [])) (all_servers x.after.world) (λ s h. done (past ++ x ∷ []) (all_clients x.after.world) s k (λ y i. last.alone y i s) (λ y c op o. last.there y s c op o) (past ++ x ∷ []) [] [] refl k (record { each = λ y i. absurd i; only = λ d i. absurd i }))
  where
    last : AsksOwnChanges past x
    last = at_last AsksOwnChanges [] past x k

on : (past ys : List Step) → Throughout AsksOwnChanges [] past → Throughout AsksOwnChanges past ys → Throughout NamesChangeOnce past ys
unfolding Throughout
on past [] p k = tt
on past (x ∷ ys) p k = let q = one_more AsksOwnChanges [] past x p k.0 in (change_once past x q, on (past ++ x ∷ []) ys q k.1)

-- At each step of a run.
pub names_change_once : (xs : List Step) → Throughout AsksOwnChanges [] xs → Throughout NamesChangeOnce [] xs
unfolding Throughout
names_change_once xs k = on [] xs tt k
