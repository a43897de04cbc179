-- None of the earlier open asks of a client must take effect before one whose request was sent in order. What is open later under an earlier number was open
-- before.
use Rattle.st_lemmas.proofs.Words
use Words.{◌≡◌, ◌⊎◌, ℕ, ◌+◌, ◌<◌, ◌≤◌, arith, Bool, true, false, not, ◌&&◌, ◌||◌, ◌==◌, List, [], ◌∷◌, ◌++◌, Option, Some, None, refl, sym, ap, ◌∙◌, subst, inl, inr, if◌then◌else◌}
use Words.{eq-eqb, eqb-true, is_some, leb-true, list_any, ltb-true, nat_le, nat_lt, Ask, ClientId, FileId, Operation, ServerId}
use Words.asks
use Words.stages
use Words.ClientState as cs
use Words.Lists.{Has}
use Words.Tables.{and_both, and_true, cond_either, has_append, has_filter, has_filter_in, has_map, has_map_in}
use Words.Truth.{clash}
use Rattle.st_base.specs.declared.names.NameAsk.TheVariants as names
use Rattle.st_messages.specs.Kinds.{between}
use Rattle.st_messages.specs.Ranges.{is_ask, is_file}
use Rattle.st_rules.specs.declared.client.Stage.{Stage}
use Rattle.st_laws_requests.specs.Cuts.Cuts.{OneWaits}
use Rattle.st_laws_volume.specs.Asks.{AsksOf, ask_key, in_volume}
use Rattle.st_laws_volume.specs.Options.{OnSome}
use Rattle.st_laws_volume.specs.SentOrder.{Fine, Ordered}
use Rattle.st_laws_volume.proofs.AskSteps.{asked_once, run_tells, told_all, told_by, without_ask}
use Rattle.st_laws_volume.proofs.SentOrder.{Sooner, server_is, sooner_is}
use Rattle.st_laws_volume.proofs.StuckNames.{Stays}
use Rattle.st_volume.specs.declared.step.VolumeStep.{VolumeStep}
use Rattle.st_volume.specs.declared.step.VolumeStep.TheVariants as steps
use Rattle.st_volume.specs.Pages.{place_of}
use Rattle.st_volume.specs.Volume as volume
use Rattle.st_volume.specs.Volume.{Pending, Volume, is_before, is_cut_or_name, is_of_client, is_sooner, open_of, run}

-- No open ask of this client under a lower number must take effect before this ask.
abbrev pub NoneSooner : Volume → ClientId → ℕ → Ask → Type 0
NoneSooner v c op ask = (b : Pending) → Has b v.pending → is_of_client c b ≡ true → b.op < op → is_sooner b.ask ask ≡ false

-- so none comes before an ask
pub none_before : (v : Volume) (a : Pending) → NoneSooner v a.client a.op a.ask → list_any (is_before a) v.pending ≡ false
none_before v a h = go v.pending (λ b i. i)
  where
    one : (b : Pending) → Has b v.pending → is_before a b ≡ false
    one b i = pick (is_before a b) refl
      where
        pick : (z : Bool) → is_before a b ≡ z → is_before a b ≡ false
        pick false q = q
        pick true q =
            let x = and_true (is_of_client a.client b && nat_lt b.op a.op) _ q in
            let y = and_true (is_of_client a.client b) (nat_lt b.op a.op) x.0 in
            clash (and_true (not (is_some b.result)) (is_sooner b.ask a.ask) x.1).1 (h b i y.0 (ltb-true b.op a.op y.1))

    go : (xs : List Pending) → ((b : Pending) → Has b xs → Has b v.pending) → list_any (is_before a) xs ≡ false
    go [] f = refl
    go (x ∷ xs) f = ap (λ z. z || list_any (is_before a) xs) (one x (f x (inl refl))) ∙ go xs (λ b i. f b (inr i))

-- What is open later under a number that was given.
module _ (c : ClientId) (k : ℕ × Ask) where
  abbrev From : AsksOf → AsksOf → Type 0
  From a b = (k.0 ≤ b.count) × (Has k b.pending → Has k a.pending)

  one_from : (it : VolumeStep) (a : AsksOf) → k.0 ≤ a.count → From a (told_by c it a)
  one_from (steps.Asked d ask) a l = cond_either (From a) (d.0 == c.0) (asked_once ask a) a (λ q. (omega (arith, l), new)) (λ q. (l, λ i. i))
    where
      new : Has k (a.pending ++ (a.count + 1, ask) ∷ []) → Has k a.pending
      new i = go (has_append a.pending ((a.count + 1, ask) ∷ []) k i)
        where
          go : Has k a.pending ⊎ Has k ((a.count + 1, ask) ∷ []) → Has k a.pending
          go (inl j) = j
          go (inr (inl e)) = let n = ap (λ (y : ℕ × Ask). y.0) e in absurd (omega (arith, n, l))
          go (inr (inr j)) = absurd j
  one_from (steps.Answered d op answer) a l =
      cond_either (From a) (d.0 == c.0) (record a { pending = without_ask op a.pending }) a
      (λ q. (l, λ i. (has_filter (λ (y : ℕ × Ask). not (y.0 == op)) a.pending k i).0)) (λ q. (l, λ i. i))
  one_from (steps.Crashed d) a l = cond_either (From a) (d.0 == c.0) (record a { pending = [] }) a (λ q. (l, λ i. absurd i)) (λ q. (l, λ i. i))
  one_from (steps.TakesEffect d op) a l = (l, λ i. i)
  one_from (steps.Joined i d what) a l = (l, λ j. j)
  one_from (steps.Hardened i) a l = (l, λ j. j)
  one_from (steps.Dropped i cause) a l = (l, λ j. j)
  one_from (steps.Restarted s) a l = (l, λ i. i)
  one_from (steps.WriteFailed d number i) a l = (l, λ j. j)
  one_from (steps.ReadFailed d s number) a l = (l, λ i. i)

  told_from : (its : List VolumeStep) (a : AsksOf) → k.0 ≤ a.count → Has k (told_all c its a).pending → Has k a.pending
  told_from [] a l i = i
  told_from (it ∷ its) a l i = let z = one_from it a l in z.1 (told_from its (told_by c it a) z.0 i)

-- it stays so in a run
pub sooner_on : (c : ClientId) (its : List VolumeStep) (v u : Volume) → run its v ≡ Some u → (op : ℕ) (ask : Ask) → op ≤ (in_volume v c).count →
    NoneSooner v c op ask → NoneSooner u c op ask
sooner_on c its v u led op ask low h b i q l =
    let there : Has (ask_key b) (in_volume u c).pending = has_map_in ask_key (open_of u c) b (has_filter_in (is_of_client c) u.pending b i q) in
    let old : Has (ask_key b) (in_volume v c).pending =
    told_from c (ask_key b) its (in_volume v c) (omega (arith, l, low)) (subst (λ (z : AsksOf). Has (ask_key b) z.pending) tells there) in
    let z = has_map ask_key (open_of v c) (ask_key b) old in
    let f = has_filter (is_of_client c) v.pending z.0 z.1 in
    let n = ap (λ (y : ℕ × Ask). y.0) z.2 in
    ap (λ (y : ℕ × Ask). is_sooner y.1 ask) z.2 ∙ h z.0 f.0 f.1 (omega (arith, n, l))
  where
    tells : in_volume u c ≡ told_all c its (in_volume v c)
    tells = subst (OnSome (λ u. in_volume u c ≡ told_all c its (in_volume v c))) led (run_tells c its v)

-- An ask that means no file needs none.
above_none : (f : FileId) (rest : Bool) → (is_file 1 f && rest) ≡ true → f.ino ≡ 0 → ⊥
above_none f rest q e =
    let a = and_true (is_file 1 f) rest q in
    let b = and_true (between 1 65535 f.server.0) (between 1 4294967295 f.ino) a.0 in
    let n = leb-true 1 f.ino (and_true (nat_le 1 f.ino) (nat_le f.ino 4294967295) b.1).0 in absurd (omega (arith, n, e))

needs_none : (a : Ask) → is_ask a ≡ true → (is_some (place_of a) || is_cut_or_name a) ≡ true → (volume.file_of a).ino ≡ 0 → cs.file_of a ≡ None
unfolding is_ask cs.meant
needs_none (asks.Write f p bytes) r k e = absurd (above_none f _ r e)
needs_none (asks.Patch f p at bytes) r k e = absurd (above_none f _ r e)
needs_none (asks.Cut f p) r k e = absurd (above_none f _ r e)
needs_none (asks.Name s (names.Remove dir name ino)) r k e = ap (λ b. file b) (eq-eqb ino 0 e)
  where
    file : Bool → Option ℕ
    file b = if b then None else Some ino
needs_none (asks.Name s (names.Lookup dir name)) r k e = refl
needs_none (asks.Name s (names.Create dir name)) r k e = refl
needs_none (asks.Name s (names.Mkdir dir name)) r k e = refl
needs_none (asks.Name s (names.Rename dir name dir2 name2)) r k e = refl
needs_none (asks.Name s (names.List dir after)) r k e = refl
needs_none (asks.Read f p) r k e = cc k
needs_none (asks.Sync f) r k e = cc k

-- An operation whose request was sent, among the operations of its client.
module _ (os : List Operation) (s : ServerId) (alone : OneWaits s os) (stay : Stays os) (p : Operation) (there : Has p os) (asked : cs.is_asked s p ≡ true)
    (kind : is_cut_or_name p.ask ≡ true) (ordered : Ordered p os) where
  pub none_first : (j : Operation) → Has j os → j.op < p.op → is_ask j.ask ≡ true → is_sooner j.ask p.ask ≡ false
  none_first j i l r = go (ordered j i l)
    where
      go : Fine j p.ask → is_sooner j.ask p.ask ≡ false
      go (inl q) = q
      go (inr (e, what)) = pick (is_sooner j.ask p.ask) refl
        where
          pick : (b : Bool) → is_sooner j.ask p.ask ≡ b → is_sooner j.ask p.ask ≡ false
          pick false q = q
          pick true q = absurd (no what)
            where
              z : Sooner j.ask p.ask
              z = sooner_is j.ask p.ask kind q

              same : ((volume.file_of j.ask).server.0 ≡ (volume.file_of p.ask).server.0) × ((volume.file_of j.ask).ino ≡ (volume.file_of p.ask).ino)
              same =
                  let a = and_true ((volume.file_of j.ask).server.0 == (volume.file_of p.ask).server.0)
                  ((volume.file_of j.ask).ino == (volume.file_of p.ask).ino) z.file in (
                    eqb-true (volume.file_of j.ask).server.0 (volume.file_of p.ask).server.0 a.0,
                    eqb-true (volume.file_of j.ask).ino (volume.file_of p.ask).ino a.1,
                  )

              none : cs.file_of j.ask ≡ None
              none = needs_none j.ask r z.kind (same.1 ∙ e)

              of : cs.is_of s j ≡ true
              of =
                  ap (λ (y : ServerId). y.0 == s.0) (sym (server_is j.ask) ∙ (ap (λ n. record { 0 = n }) same.0 ∙ server_is p.ask))
                  ∙ (and_true (cs.is_of s p) (cs.is_asked_at p.stage) asked).0

              at : (g : Stage) → j.stage ≡ g → cs.is_sent_at g ≡ true → ⊥
              at stages.Sent f w =
                  let n = alone j p i there (and_both (cs.is_of s j) (cs.is_asked_at j.stage) of (ap cs.is_asked_at f)) asked in absurd (omega (arith, n, l))
              at stages.Stuck f w = stay j i f
              at stages.Unsent f w = cc w

              no : (cs.is_sent j ≡ true) ⊎ (is_some (cs.file_of j.ask) ≡ true) → ⊥
              no (inl w) = at j.stage refl w
              no (inr w) = clash w (ap is_some none)
