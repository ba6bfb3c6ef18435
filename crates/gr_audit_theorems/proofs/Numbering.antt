-- Lines with their frames numbered from a number on
use Rattle.std.proofs.Common.{◌≡◌, ℕ, suc, ◌+◌, Bool, true, false, List, [], ◌∷◌, ◌++◌, length, refl, ap, ap₂, ◌∙◌, arith}
use Rattle.std.specs.Prelude.{if◌then◌else◌, filter, cond}
use Rattle.std.proofs.lemmas.List.{length-append}
use Rattle.std.proofs.lemmas.List.Elements.{filter-append}
use Rattle.gr_frame.specs.declared.Body.{Body}
use Rattle.gr_frame.specs.declared.Body.TheVariants as body
use Rattle.gr_frame.specs.declared.Frame.{Frame}
use Rattle.gr_model.specs.declared.report.Report.{Report}
use Rattle.gr_model.specs.declared.report.Report.TheVariants as line
use Rattle.gr_model.specs.World.{sent_line, sent_lines}
use Rattle.gr_model.specs.Headline.{is_sent, sent_count}
use Rattle.gr_audit_theorems.specs.Numbered.{renumbered, numbered_on}

pub count-append : (xs ys : List Report) → sent_count (xs ++ ys) ≡ sent_count xs + sent_count ys
count-append xs ys = ap length (filter-append is_sent xs ys) ∙ length-append (filter is_sent xs) (filter is_sent ys)

-- one list behind another goes on with the number behind the frames of that
pub numbered-append : (n : ℕ) (xs ys : List Report) → numbered_on n (xs ++ ys) ≡ numbered_on n xs ++ numbered_on (n + sent_count xs) ys
numbered-append n [] ys = ap (λ m. numbered_on m ys) (omega arith)
numbered-append n (x ∷ xs) ys = ap (λ (z : List Report). renumbered n x ∷ z) (go (is_sent x) (λ m. numbered-append m xs ys))
  where
    go : (c : Bool) → ((m : ℕ) → numbered_on m (xs ++ ys) ≡ numbered_on m xs ++ numbered_on (m + sent_count xs) ys) → numbered_on (if c then suc n else n) (xs ++ ys) ≡ numbered_on (if c then suc n else n) xs ++ numbered_on (n + length (cond c (x ∷ filter is_sent xs) (filter is_sent xs))) ys
    go true more = more (suc n) ∙ ap (λ m. numbered_on (suc n) xs ++ numbered_on m ys) (omega arith)
    go false more = more n

-- lines that tell of no frame stay as they are
none_first : (x : Report) (xs : List Report) → filter is_sent (x ∷ xs) ≡ [] → (is_sent x ≡ false) × (filter is_sent xs ≡ [])
none_first x xs e = go (is_sent x) refl e
  where
    go : (c : Bool) → is_sent x ≡ c → cond c (x ∷ filter is_sent xs) (filter is_sent xs) ≡ [] → (is_sent x ≡ false) × (filter is_sent xs ≡ [])
    go true k h = absurd (cc)
    go false k h = (k, h)

stays : (n : ℕ) (x : Report) → is_sent x ≡ false → renumbered n x ≡ x
stays n (line.SentKnow k from to p runs js) e = absurd (cc)
stays n (line.SentWant k from to p runs) e = absurd (cc)
stays n (line.SentExpect k from to p tick) e = absurd (cc)
stays n x e = refl

pub numbered_none : (n : ℕ) (xs : List Report) → filter is_sent xs ≡ [] → numbered_on n xs ≡ xs
numbered_none n [] e = refl
numbered_none n (x ∷ xs) e =
    let k = none_first x xs e in
    ap₂ (λ (y : Report) (z : List Report). y ∷ z) (stays n x k.0) (ap (λ c. numbered_on (if c then suc n else n) xs) k.0 ∙ numbered_none n xs k.1)

-- the lines of frames with another first number
pub numbered_sent : (n m : ℕ) (fs : List Frame) → numbered_on n (sent_lines m fs) ≡ sent_lines n fs
unfolding sent_line
numbered_sent n m [] = refl
numbered_sent n m (f ∷ fs) = one f.body (numbered_sent (suc n) (suc m) fs)
  where
    one : (y : Body) → numbered_on (suc n) (sent_lines (suc m) fs) ≡ sent_lines (suc n) fs → (let x : Report = elim y [ body.Knowledge runs js ↦ line.SentKnow m f.head.from f.head.to f.head.publisher runs js | body.Curiosity runs ↦ line.SentWant m f.head.from f.head.to f.head.publisher runs | body.Expect tick ↦ line.SentExpect m f.head.from f.head.to f.head.publisher tick ] in
        let z : Report = elim y [ body.Knowledge runs js ↦ line.SentKnow n f.head.from f.head.to f.head.publisher runs js | body.Curiosity runs ↦ line.SentWant n f.head.from f.head.to f.head.publisher runs | body.Expect tick ↦ line.SentExpect n f.head.from f.head.to f.head.publisher tick ] in
        numbered_on n (x ∷ sent_lines (suc m) fs) ≡ z ∷ sent_lines (suc n) fs)
    one (body.Knowledge runs js) more = ap (λ (z : List Report). line.SentKnow n f.head.from f.head.to f.head.publisher runs js ∷ z) more
    one (body.Curiosity runs) more = ap (λ (z : List Report). line.SentWant n f.head.from f.head.to f.head.publisher runs ∷ z) more
    one (body.Expect tick) more = ap (λ (z : List Report). line.SentExpect n f.head.from f.head.to f.head.publisher tick ∷ z) more

pub count_sent : (m : ℕ) (fs : List Frame) → sent_count (sent_lines m fs) ≡ length fs
unfolding sent_line
count_sent m [] = refl
count_sent m (f ∷ fs) = one f.body (count_sent (suc m) fs)
  where
    one : (y : Body) → sent_count (sent_lines (suc m) fs) ≡ length fs → (let x : Report = elim y [ body.Knowledge runs js ↦ line.SentKnow m f.head.from f.head.to f.head.publisher runs js | body.Curiosity runs ↦ line.SentWant m f.head.from f.head.to f.head.publisher runs | body.Expect tick ↦ line.SentExpect m f.head.from f.head.to f.head.publisher tick ] in
        sent_count (x ∷ sent_lines (suc m) fs) ≡ suc (length fs))
    one (body.Knowledge runs js) more = ap (λ k. suc k) more
    one (body.Curiosity runs) more = ap (λ k. suc k) more
    one (body.Expect tick) more = ap (λ k. suc k) more

-- the lines of frames are lines of frames
pub sent_itself : (m : ℕ) (fs : List Frame) → filter is_sent (sent_lines m fs) ≡ sent_lines m fs
unfolding sent_line
sent_itself m [] = refl
sent_itself m (f ∷ fs) = one f.body (sent_itself (suc m) fs)
  where
    one : (y : Body) → filter is_sent (sent_lines (suc m) fs) ≡ sent_lines (suc m) fs → (let x : Report = elim y [ body.Knowledge runs js ↦ line.SentKnow m f.head.from f.head.to f.head.publisher runs js | body.Curiosity runs ↦ line.SentWant m f.head.from f.head.to f.head.publisher runs | body.Expect tick ↦ line.SentExpect m f.head.from f.head.to f.head.publisher tick ] in
        filter is_sent (x ∷ sent_lines (suc m) fs) ≡ x ∷ sent_lines (suc m) fs)
    one (body.Knowledge runs js) more = ap (λ (z : List Report). line.SentKnow m f.head.from f.head.to f.head.publisher runs js ∷ z) more
    one (body.Curiosity runs) more = ap (λ (z : List Report). line.SentWant m f.head.from f.head.to f.head.publisher runs ∷ z) more
    one (body.Expect tick) more = ap (λ (z : List Report). line.SentExpect m f.head.from f.head.to f.head.publisher tick ∷ z) more
