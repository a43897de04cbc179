-- The outstanding request is ended by its own number.
use Rattle.st_lemmas.proofs.Words
use Words.{◌≡◌, ℕ, Bool, true, sym, ap, ◌∙◌, ◌==◌, Option, Some, None, option_map, if◌then◌else◌, eq-eqb, Body, Request}
use Words.Lookups.{some_is}
use Rattle.st_requests.specs.declared.requests.Reply.TheVariants.{Match, Other}
use Rattle.st_requests.specs.ServerRequests.{ServerRequests, body_of, ended, leaves_reply, matched, not_matched, reply, reply_to, shown}

told_is : {t b : Body} → Match t ≡ Match b → t ≡ b
told_is e = cc

-- a reply to the outstanding request's number
pub reply_own : (r : ServerRequests) (number : ℕ) (body : Body) → Some (number, body) ≡ option_map shown r.requests.asked → reply r number ≡ matched r body
unfolding reply reply_to
reply_own r number body e = by r.requests.asked e
  where
    by : (o : Option Request) → Some (number, body) ≡ option_map shown o → reply_to r number o ≡ matched r body
    by None e = cc
    by (Some q) e =
        let s : (number, body) ≡ (q.number, q.body) = some_is e in
        let same : (q.number == number) ≡ true = eq-eqb q.number number (sym (ap (λ x. x.0) s)) in
        ap (λ (b : Bool). if b then matched r q.body else not_matched r) same ∙ ap (matched r) (sym (ap (λ x. x.1) s))

-- a match is that of the outstanding request
pub match_own : (r new : ServerRequests) (number : ℕ) (body told : Body) → Some (number, body) ≡ option_map shown r.requests.asked →
    leaves_reply (Match told) new ≡ reply r number → (Some told ≡ option_map body_of r.requests.asked) × (new ≡ ended r)
match_own r new number body told e l =
    let m : leaves_reply (Match told) new ≡ matched r body = l ∙ reply_own r number body e in
    (by (ap (λ x. x.reply) m) r.requests.asked e, ap (λ x. x.requests) m)
  where
    by : Match told ≡ Match body → (o : Option Request) → Some (number, body) ≡ option_map shown o → Some told ≡ option_map body_of o
    by m None e = cc
    by m (Some q) e = let s : (number, body) ≡ (q.number, q.body) = some_is e in ap Some (told_is m ∙ ap (λ x. x.1) s)

-- and there is no other
pub no_other : (r new : ServerRequests) (number : ℕ) (body : Body) → Some (number, body) ≡ option_map shown r.requests.asked → leaves_reply Other new ≡ reply r number → ⊥
no_other r new number body e l =
    let m : leaves_reply Other new ≡ matched r body = l ∙ reply_own r number body e in
    let c : Other ≡ Match body = ap (λ x. x.reply) m in cc
