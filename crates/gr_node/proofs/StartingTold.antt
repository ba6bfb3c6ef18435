-- What brokers that start one after another tell: a broker that is put in its place changes nothing of what those before have told.
use Rattle.std.proofs.Common.{◌≡◌, ℕ, ◌+◌, ◌<◌, false, nat_eq, List, [], ◌∷◌, ◌++◌, length, take, Option, Some, refl, sym, ap, ap₂, ◌∙◌, subst, append_assoc, append-nil}
use Rattle.std.specs.Prelude.{flat_map}
use Rattle.std.proofs.lemmas.Bool.{or_parts, eqb-false}
use Rattle.std.proofs.lemmas.Grind.{flat_map-append}
use Rattle.gr_out.specs.Journal.{is_among}
use Rattle.gr_out.specs.Page.{TakesBut, TakesFront}
use Rattle.gr_out.proofs.Fronts.{but-later, front-later}
use Rattle.gr_topo.specs.Topology.{TopologyView}
use Rattle.gr_model.specs.declared.report.Report.{Report}
use Rattle.gr_model.specs.Text.{labels_of, whole_line}
use Rattle.gr_model.specs.Orders.{Order, fed, orders_of}
use Rattle.gr_broker.specs.Seen.{BrokerView}
use Rattle.gr_node.specs.Seen.{NodeView, text_of}
use Rattle.gr_node.specs.Starting.{lines_of_start, start_lines}
use Rattle.gr_model_theorems.proofs.order.Unheard.{fed_append}
use Rattle.gr_node.proofs.StartingOrder.{IsNext}
use Rattle.gr_node.proofs.StartingNodes.{with_broker, in_place, as_before}

-- what these brokers tell
abbrev pub told_by : TopologyView → NodeView → List ℕ → List ℕ
told_by t n bs = text_of t (flat_map (start_lines t n) bs)

-- and what others tell behind it
pub told_append : (t : TopologyView) (n : NodeView) (bs cs : List ℕ) → told_by t n (bs ++ cs) ≡ told_by t n bs ++ told_by t n cs
told_append t n bs cs =
    ap (text_of t) (flat_map-append (start_lines t n) bs cs)
    ∙ flat_map-append (whole_line (labels_of t)) (flat_map (start_lines t n) bs) (flat_map (start_lines t n) cs)

module _ (t : TopologyView) (n : NodeView) (b : ℕ) (x : BrokerView) (os : List Order) (count : length n.brokers ≡ length t.brokers) (j : b < length t.brokers) where
  -- those before tell the same
  lines_as_before : (bs : List ℕ) → is_among bs b ≡ false → flat_map (start_lines t (with_broker n b x os)) bs ≡ flat_map (start_lines t n) bs
  lines_as_before [] new = refl
  lines_as_before (a ∷ bs) new =
      let parts = or_parts (nat_eq a b) (is_among bs b) new in
      ap (λ xs. xs ++ flat_map (start_lines t (with_broker n b x os)) bs) (ap (lines_of_start t a) (as_before t n b x os count j a (eqb-false a b parts.0)))
      ∙ ap (λ xs. start_lines t n a ++ xs) (lines_as_before bs parts.1)

  -- and the one its own
  pub lines_more : (bs : List ℕ) (lines : List Report) → is_among bs b ≡ false → lines ≡ lines_of_start t b (Some x)
      → flat_map (start_lines t (with_broker n b x os)) (bs ++ b ∷ []) ≡ flat_map (start_lines t n) bs ++ lines
  lines_more bs lines new e =
      flat_map-append (start_lines t (with_broker n b x os)) bs (b ∷ [])
      ∙ ap₂ (λ (xs ys : List Report). xs ++ ys) (lines_as_before bs new)
      (append-nil (start_lines t (with_broker n b x os) b) ∙ ap (lines_of_start t b) (in_place t n b x os count j) ∙ sym e)

  -- which is heard behind what was heard before
  pub heard_more : (bs : List ℕ) (lines : List Report) → is_among bs b ≡ false → lines ≡ lines_of_start t b (Some x)
      → n.orders ≡ fed (orders_of t) (flat_map (start_lines t n) bs) → os ≡ fed n.orders lines
      → os ≡ fed (orders_of t) (flat_map (start_lines t (with_broker n b x os)) (bs ++ b ∷ []))
  heard_more bs lines new e sofar more =
      more ∙ ap (λ ws. fed ws lines) sofar
      ∙ sym (fed_append (orders_of t) (flat_map (start_lines t n) bs) lines)
      ∙ sym (ap (fed (orders_of t)) (lines_more bs lines new e))

  -- and put behind what was put before
  pub told_more : (bs : List ℕ) (lines : List Report) → is_among bs b ≡ false → lines ≡ lines_of_start t b (Some x) → told_by t (with_broker n b x os) (bs ++ b ∷ []) ≡ told_by t n bs ++ text_of t lines
  told_more bs lines new e =
      told_append t (with_broker n b x os) bs (b ∷ [])
      ∙ ap (λ xs. text_of t xs ++ told_by t (with_broker n b x os) (b ∷ [])) (lines_as_before bs new)
      ∙ ap (λ xs. told_by t n bs ++ text_of t xs) (append-nil (start_lines t (with_broker n b x os) b) ∙ ap (lines_of_start t b) (in_place t n b x os count j) ∙ sym e)

-- Pages

-- but for what is held back, a front was taken
pub front_of : (old new : Option (List ℕ)) (text held : List ℕ) → TakesBut old new text held → TakesFront old new text
front_of old new text held p = record { part = p.part; rest = held; whole = p.whole; taken = p.taken }

module _ (t : TopologyView) (n : NodeView) (hosted : List ℕ) (i b : ℕ) (x : BrokerView) (os : List Order) (lines : List Report) (count : length n.brokers ≡ length t.brokers) (j : b < length t.brokers) (next : IsNext hosted i b) (e : lines ≡ lines_of_start t b (Some x))
    (old mid new : Option (List ℕ)) (before held : List ℕ) (p : TakesBut old mid (before ++ told_by t n (take i hosted)) held) where
  told_next : told_by t n (take i hosted) ++ text_of t lines ≡ told_by t (with_broker n b x os) (take (i + 1) hosted)
  told_next = sym (ap (told_by t (with_broker n b x os)) next.more ∙ told_more t n b x os count j (take i hosted) lines next.new e)

  joined_text : (before ++ told_by t n (take i hosted)) ++ text_of t lines ≡ before ++ told_by t (with_broker n b x os) (take (i + 1) hosted)
  joined_text = append_assoc before (told_by t n (take i hosted)) (text_of t lines) ∙ ap (λ xs. before ++ xs) told_next

  -- the lines of one broker more were put
  pub put_more : (left : List ℕ) → TakesBut mid new (held ++ text_of t lines) left → TakesBut old new (before ++ told_by t (with_broker n b x os) (take (i + 1) hosted)) left
  put_more left q =
      subst (λ text. TakesBut old new text left) joined_text
      (but-later old mid new (before ++ told_by t n (take i hosted)) (text_of t lines) held left p q)

  -- or a front of them
  pub put_front : TakesFront mid new (held ++ text_of t lines) → TakesFront old new (before ++ told_by t (with_broker n b x os) (take (i + 1) hosted))
  put_front f =
      subst (TakesFront old new) joined_text
      (front-later old mid new (before ++ told_by t n (take i hosted)) (text_of t lines) held p f)
