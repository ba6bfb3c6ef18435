-- To read the protocol, in this order: Net (what a topology is to the machine), Tree (when it is a tree), Broker (one
-- broker's calls for one publisher), World (all brokers, the frames sent, the report of a schedule), Headline (what
-- each report is to meet, apart from any machine). Then Text (the text of each line), Opening (a start over logs that
-- were found) and Arrivals (a server). Blank and NetOf serve these.
pub mod Net
pub mod Broker
pub mod World
pub mod Headline
pub mod Tree
pub mod Blank
pub mod Text
pub mod NetOf
pub mod Opening
pub mod Arrivals
pub mod Orders
pub mod Ordered
