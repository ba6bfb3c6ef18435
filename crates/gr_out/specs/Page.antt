-- What a sink took of a text, and what a page holds back of it
use Rattle.std.specs.Prelude.{◌≡◌, ℕ, List, ◌++◌, Option}
use Rattle.gr_out.specs.Bytes.{with_more}

-- what a page holds, and how many calls memory refused
pub record PageView : Type 0 where
  pub held : List ℕ
  pub faults : ℕ

-- the sink took all of the text but what is held back, and nothing else
pub record TakesBut (old new : Option (List ℕ)) (text held : List ℕ) : Type 0 where
  pub part : List ℕ
  pub whole : text ≡ part ++ held
  pub taken : new ≡ with_more old part

-- the sink took a front of the text, and nothing else
pub record TakesFront (old new : Option (List ℕ)) (text : List ℕ) : Type 0 where
  pub part : List ℕ
  pub rest : List ℕ
  pub whole : text ≡ part ++ rest
  pub taken : new ≡ with_more old part
