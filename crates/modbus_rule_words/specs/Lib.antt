pub mod RuleWords
pub mod PeerWords
